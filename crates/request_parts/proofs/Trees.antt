-- The text of a request is that of a JSON value.
use Rattle.std.proofs.Common.{◌≡◌, ℕ, List, [], ◌∷◌, ◌++◌, map, Bool, true, false, if◌then◌else◌, refl, ap, ap₂, sym, ◌∙◌, append_assoc}
use Rattle.std.specs.Prelude.{codes}
use Rattle.json.specs.Json as json
use Rattle.json.specs.Print.{escape_byte, print, print_from, quoted}
use Rattle.json.specs.Token.{Token}
use Rattle.json.specs.Tree.{items_tokens, json_tokens}
use Rattle.waf_model.specs.JsonText.{json_string, json_list, with_commas}
use Rattle.waf_model.specs.RequestText.{address_text, base64_text, header_text, is_printable, request_text}
use Rattle.waf_model.specs.declared.request.Header.{Header}
use Rattle.waf_model.specs.declared.request.Request.{Request}
use Rattle.request_parts.proofs.Escapes.{same_quoted}

-- the member that holds the value of a header, by whether it is printable
abbrev pub value_name : Bool → List ℕ
value_name true = codes "value"
value_name false = codes "valueBase64"

abbrev pub value_text : Bool → List ℕ → List ℕ
value_text true value = value
value_text false value = base64_text value

abbrev pub header_json : Header → json.Json
header_json header = json.object (json.member (codes "name") (json.string header.name)
    (json.member (value_name (is_printable header.value)) (json.string (value_text (is_printable header.value) header.value)) json.no_members))

abbrev pub headers_json : List Header → json.Items
headers_json [] = json.no_items
headers_json (header ∷ headers) = json.item (header_json header) (headers_json headers)

abbrev pub request_json : Request → json.Json
request_json request = json.object (json.member (codes "args") (json.string request.query)
    (json.member (codes "body") (json.string (base64_text request.body))
    (json.member (codes "clientIp") (json.string (address_text request.address))
    (json.member (codes "headers") (json.array (headers_json request.headers))
    (json.member (codes "httpMethod") (json.string request.method)
    (json.member (codes "uri") (json.string request.path) json.no_members))))))

-- ---- how it is printed

-- pieces that are joined from the left are those that are joined from the right
six_pieces : (a b c d e f more : List ℕ) → a ++ (b ++ (c ++ (d ++ (e ++ (f ++ more))))) ≡ (a ++ b ++ c ++ (d ++ e) ++ f) ++ more
six_pieces a b c d e f more = simp append_assoc

-- a header with a printable value, or with one in base64
printed_by : (printable : Bool) (name value : List ℕ) (more : List Token)
    → print_from false (json_tokens (json.object (json.member (codes "name") (json.string name) (json.member (value_name printable) (json.string (value_text printable value)) json.no_members))) ++ more)
    ≡ codes "{\"name\":" ++ (quoted name ++ (codes "," ++ ((if printable then codes "\"value\":" else codes "\"valueBase64\":") ++ (quoted (value_text printable value) ++ (codes "}" ++ print_from true more)))))
unfolding print_from escape_byte
printed_by true name value more = refl
printed_by false name value more = refl

header_by : (printable : Bool) (name value : List ℕ) (more : List Token)
    → print_from false (json_tokens (json.object (json.member (codes "name") (json.string name) (json.member (value_name printable) (json.string (value_text printable value)) json.no_members))) ++ more)
    ≡ (codes "{\"name\":" ++ json_string name ++ codes "," ++ (if printable then codes "\"value\":" ++ json_string value else codes "\"valueBase64\":" ++ json_string (base64_text value)) ++ codes "}") ++ print_from true more
header_by true name value more =
    printed_by true name value more
    ∙ ap₂ (λ n v. codes "{\"name\":" ++ (n ++ (codes "," ++ (codes "\"value\":" ++ (v ++ (codes "}" ++ print_from true more)))))) (sym (same_quoted name)) (sym (same_quoted value))
    ∙ six_pieces (codes "{\"name\":") (json_string name) (codes ",") (codes "\"value\":") (json_string value) (codes "}") (print_from true more)
header_by false name value more =
    printed_by false name value more
    ∙ ap₂ (λ n v. codes "{\"name\":" ++ (n ++ (codes "," ++ (codes "\"valueBase64\":" ++ (v ++ (codes "}" ++ print_from true more)))))) (sym (same_quoted name)) (sym (same_quoted (base64_text value)))
    ∙ six_pieces (codes "{\"name\":") (json_string name) (codes ",") (codes "\"valueBase64\":") (json_string (base64_text value)) (codes "}") (print_from true more)

header_printed : (header : Header) (more : List Token) → print_from false (json_tokens (header_json header) ++ more) ≡ header_text header ++ print_from true more
header_printed header more = header_by (is_printable header.value) header.name header.value more

-- behind another value there is a comma
behind : (header : Header) (headers : List Header) (more : List Token)
    → print_from true (items_tokens (headers_json (header ∷ headers)) ++ more) ≡ 44 ∷ print_from false (items_tokens (headers_json (header ∷ headers)) ++ more)
unfolding print_from
behind header headers more = refl

ended : (c : Bool) (more : List Token) → print_from c (Token.end_array ∷ more) ≡ 93 ∷ print_from true more
unfolding print_from
ended true more = refl
ended false more = refl

headers_printed : (headers : List Header) (more : List Token) → print_from false (items_tokens (headers_json headers) ++ more) ≡ with_commas (map header_text headers) ++ 93 ∷ print_from true more
headers_printed [] more = ended false more
headers_printed (header ∷ []) more =
    ap (print_from false) (append_assoc (json_tokens (header_json header)) (Token.end_array ∷ []) more)
    ∙ header_printed header (Token.end_array ∷ more) ∙ ap (λ t. header_text header ++ t) (ended true more)
headers_printed (header ∷ next ∷ headers) more =
    let rest = items_tokens (headers_json (next ∷ headers)) in
    ap (print_from false) (append_assoc (json_tokens (header_json header)) rest more)
    ∙ header_printed header (rest ++ more)
    ∙ ap (λ t. header_text header ++ t) (behind next headers more ∙ ap (λ t. 44 ∷ t) (headers_printed (next ∷ headers) more))
    ∙ sym (append_assoc (header_text header) (44 ∷ with_commas (map header_text (next ∷ headers))) (93 ∷ print_from true more))

-- the tokens behind the headers
last_tokens : Request → List Token
last_tokens request = Token.key (codes "httpMethod") ∷ Token.string request.method ∷ Token.key (codes "uri") ∷ Token.string request.path ∷ Token.end_object ∷ []

front_printed : (request : Request) → print (json_tokens (request_json request))
    ≡ codes "{\"args\":" ++ (quoted request.query ++ (codes ",\"body\":" ++ (quoted (base64_text request.body) ++ (codes ",\"clientIp\":" ++ (quoted (address_text request.address)
    ++ (codes ",\"headers\":" ++ 91 ∷ print_from false (items_tokens (headers_json request.headers) ++ last_tokens request)))))))
unfolding print_from escape_byte last_tokens
front_printed request = refl

last_printed : (request : Request) → print_from true (last_tokens request) ≡ codes ",\"httpMethod\":" ++ (quoted request.method ++ (codes ",\"uri\":" ++ (quoted request.path ++ codes "}")))
unfolding print_from escape_byte last_tokens
last_printed request = refl

-- the same of the pieces of a request
all_pieces : (a b c d e f g h i j k l m : List ℕ)
    → a ++ (b ++ (c ++ (d ++ (e ++ (f ++ (g ++ (h ++ (i ++ (j ++ (k ++ (l ++ m))))))))))) ≡ a ++ b ++ c ++ d ++ e ++ f ++ g ++ h ++ i ++ j ++ k ++ l ++ m
all_pieces a b c d e f g h i j k l m = simp append_assoc

pub request_printed : (request : Request) → print (json_tokens (request_json request)) ≡ request_text request
request_printed request =
    let commas = with_commas (map header_text request.headers) in
    let rest = λ (m p : List ℕ). codes ",\"httpMethod\":" ++ (m ++ (codes ",\"uri\":" ++ (p ++ codes "}"))) in
    let front = λ (q b a more : List ℕ). codes "{\"args\":" ++ (q ++ (codes ",\"body\":" ++ (b ++ (codes ",\"clientIp\":" ++ (a ++ (codes ",\"headers\":" ++ more)))))) in
    let headers : 91 ∷ print_from false (items_tokens (headers_json request.headers) ++ last_tokens request) ≡ json_list (map header_text request.headers) ++ rest (json_string request.method) (json_string request.path) =
    ap (λ t. 91 ∷ t) (headers_printed request.headers (last_tokens request)
    ∙ ap (λ t. commas ++ 93 ∷ t) (last_printed request ∙ ap₂ rest (sym (same_quoted request.method)) (sym (same_quoted request.path)))
    ∙ sym (append_assoc commas (93 ∷ []) (rest (json_string request.method) (json_string request.path)))) in
    front_printed request
    ∙ ap (front (quoted request.query) (quoted (base64_text request.body)) (quoted (address_text request.address))) headers
    ∙ ap (λ q. front q (quoted (base64_text request.body)) (quoted (address_text request.address)) (json_list (map header_text request.headers) ++ rest (json_string request.method) (json_string request.path))) (sym (same_quoted request.query))
    ∙ ap₂ (λ b a. front (json_string request.query) b a (json_list (map header_text request.headers) ++ rest (json_string request.method) (json_string request.path))) (sym (same_quoted (base64_text request.body))) (sym (same_quoted (address_text request.address)))
    ∙ all_pieces (codes "{\"args\":") (json_string request.query) (codes ",\"body\":") (json_string (base64_text request.body)) (codes ",\"clientIp\":") (json_string (address_text request.address)) (codes ",\"headers\":")
    (json_list (map header_text request.headers)) (codes ",\"httpMethod\":") (json_string request.method) (codes ",\"uri\":") (json_string request.path) (codes "}")
