-- The text of a request within the limits is UTF-8.
use Rattle.std.proofs.Common.{◌≡◌, ℕ, zero, suc, ◌+◌, ◌*◌, ◌/◌, ◌%◌, ◌^◌, ◌<◌, ◌≤◌, List, [], ◌∷◌, ◌++◌, map, length, not, leb, true≢false, Bool, true, false, ◌&&◌, IsUtf8, refl, sym, ◌∙◌, subst, arith, inl, inr}
use Rattle.std.proofs.lemmas.Bool.{and_parts, cases_lt, le-leb, leb-true, lt-leb, lt-ltb, ltb-true, ne_eqb}
use Rattle.std.proofs.lemmas.Str.{IsUtf8-append, IsUtf8-from_ascii}
use Rattle.std.specs.Fmt.{digits, digits_onto, digit_glyph}
use Rattle.std.specs.List.{list_all, list_any, starts_with}
use Rattle.std.specs.Prelude.{codes, if◌then◌else◌, nat_le, nat_lt, ◌==◌, All, IsTrue}
use Rattle.base64.proofs.EngineFacts.{IsAscii-encode_of}
use Rattle.base64.specs.Engines.{standard}
use Rattle.json.proofs.Printed.Utf8.{are_ascii, IsUtf8-are_ascii, IsUtf8-quoted}
use Rattle.waf_model.specs.JsonText.{json_string, json_list, with_commas}
use Rattle.waf_model.specs.RequestText.{address_text, base64_text, header_text, is_printable, request_text}
use Rattle.waf_model.specs.Within.{Within, is_header, is_path_byte, is_query_byte, is_token, is_token_byte, is_upper, is_value_byte, is_visible}
use Rattle.waf_model.specs.declared.address.Address.{Address}
use Rattle.waf_model.specs.declared.address.Address.TheVariants.{V4, V6}
use Rattle.waf_model.specs.declared.request.Header.{Header}
use Rattle.waf_model.specs.declared.request.Request.{Request}
use Rattle.request_parts.proofs.Escapes.{same_quoted}

-- bytes that each pass a test that only ASCII passes
pub ascii_by : (test : ℕ → Bool) (text : List ℕ) → ((b : ℕ) → test b ≡ true → b < 128) → list_all test text ≡ true → are_ascii text ≡ true
ascii_by test [] small all = refl
ascii_by test (b ∷ text) small all =
    let p = and_parts (test b) (list_all test text) all in
    rw (lt-ltb b 128 (small b p.0)) (ascii_by test text small p.1)

glyph_by : (t : Bool) (d : ℕ) → d < 16 → (if t then 48 + d else (if false then 55 + d else 87 + d)) < 128
glyph_by true d h = omega arith
glyph_by false d h = omega arith

either : (t : Bool) (one other : List ℕ) → are_ascii one ≡ true → are_ascii other ≡ true → are_ascii (if t then one else other) ≡ true
either true one other a b = a
either false one other a b = b

onto : (base : ℕ) → ((n : ℕ) → n % base < 16) → (k n : ℕ) (front : List ℕ) → are_ascii front ≡ true → are_ascii (digits_onto k base false n front) ≡ true
onto base small zero n front so = so
onto base small (suc k) n front so =
    let more : are_ascii (digit_glyph false (n % base) ∷ front) ≡ true = rw (lt-ltb (digit_glyph false (n % base)) 128 (glyph_by (nat_lt (n % base) 10) (n % base) (small n))) so in
    either (n / base == 0) (digit_glyph false (n % base) ∷ front) (digits_onto k base false (n / base) (digit_glyph false (n % base) ∷ front)) more (onto base small k (n / base) (digit_glyph false (n % base) ∷ front) more)

digits_ascii : (base : ℕ) → ((n : ℕ) → n % base < 16) → (n : ℕ) → are_ascii (digits base false n) ≡ true
unfolding digits
digits_ascii base small n = onto base small 64 n [] refl

decimal_ascii : (n : ℕ) → are_ascii (digits 10 false n) ≡ true
decimal_ascii n = digits_ascii 10 (λ m. omega arith) n

hex_ascii : (n : ℕ) → are_ascii (digits 16 false n) ≡ true
hex_ascii n = digits_ascii 16 (λ m. omega arith) n

utf8_of : (text : List ℕ) → are_ascii text ≡ true → IsUtf8 text
utf8_of text so = IsUtf8-are_ascii text so

-- one, a byte and another
between : (c : ℕ) (one other : List ℕ) → are_ascii (c ∷ []) ≡ true → IsUtf8 one → IsUtf8 other → IsUtf8 (one ++ c ∷ other)
between c one other so u v = IsUtf8-append one (c ∷ other) u (IsUtf8-append (c ∷ []) other (utf8_of (c ∷ []) so) v)

address_utf8 : (address : Address) → IsUtf8 (address_text address)
address_utf8 (V4 n) =
    between 46 _ _ refl (utf8_of _ (decimal_ascii (n / 16777216))) (between 46 _ _ refl (utf8_of _ (decimal_ascii (n / 65536 % 256)))
    (between 46 _ _ refl (utf8_of _ (decimal_ascii (n / 256 % 256))) (utf8_of _ (decimal_ascii (n % 256)))))
address_utf8 (V6 n) =
    let group = λ (place : ℕ). n / 2 ^ (16 * place) % 65536 in
    between 58 _ _ refl (utf8_of _ (hex_ascii (group 7))) (between 58 _ _ refl (utf8_of _ (hex_ascii (group 6)))
    (between 58 _ _ refl (utf8_of _ (hex_ascii (group 5))) (between 58 _ _ refl (utf8_of _ (hex_ascii (group 4)))
    (between 58 _ _ refl (utf8_of _ (hex_ascii (group 3))) (between 58 _ _ refl (utf8_of _ (hex_ascii (group 2)))
    (between 58 _ _ refl (utf8_of _ (hex_ascii (group 1))) (utf8_of _ (hex_ascii (group 0)))))))))

-- ---- what the limits say of bytes

visible_small : (b : ℕ) → is_visible b ≡ true → b < 128
visible_small b e = let p = and_parts (leb 33 b) (leb b 126) e in omega (arith, leb-true b 126 p.1)

query_small : (b : ℕ) → is_query_byte b ≡ true → b < 128
query_small b e = visible_small b (and_parts (is_visible b) (not (b == 35)) e).0

path_small : (b : ℕ) → is_path_byte b ≡ true → b < 128
path_small b e = visible_small b (and_parts (is_visible b) (not (b == 63)) (and_parts (is_visible b && not (b == 63)) (not (b == 35)) e).0).0

printable_small : (b : ℕ) → (nat_le 32 b && nat_le b 126) ≡ true → b < 128
printable_small b e = let p = and_parts (leb 32 b) (leb b 126) e in omega (arith, leb-true b 126 p.1)

none_above : (marks : List ℕ) (b : ℕ) → are_ascii marks ≡ true → 128 ≤ b → list_any (λ mark. mark == b) marks ≡ false
none_above [] b so h = refl
none_above (mark ∷ marks) b so h =
    let p = and_parts (nat_lt mark 128) (are_ascii marks) so in
    let small : mark < 128 = ltb-true mark 128 p.0 in
    rw (ne_eqb mark b (omega arith)) (none_above marks b p.1 h)

no_token_above : (b : ℕ) → 128 ≤ b → is_token_byte b ≡ false
no_token_above b h =
    rw (le-leb 65 b (omega arith), lt-leb b 90 (omega arith), le-leb 97 b (omega arith), lt-leb b 122 (omega arith), le-leb 48 b (omega arith), lt-leb b 57 (omega arith))
    (none_above (codes "!#$%&'*+-.^_`|~") b refl h)

token_small : (b : ℕ) → is_token_byte b ≡ true → b < 128
token_small b e = elim (cases_lt b 128) [ inl small ↦ small | inr large ↦ absurd (true≢false (sym e ∙ no_token_above b (omega arith))) ]

pub token_ascii : (text : List ℕ) → is_token text ≡ true → are_ascii text ≡ true
token_ascii text e = ascii_by is_token_byte text token_small (and_parts (nat_le 1 (length text)) (list_all is_token_byte text) e).1

-- ---- the text

string_utf8 : (text : List ℕ) → IsUtf8 text → IsUtf8 (json_string text)
string_utf8 text u = subst IsUtf8 (sym (same_quoted text)) (IsUtf8-quoted text u)

base64_utf8 : (bytes : List ℕ) → IsUtf8 (json_string (base64_text bytes))
unfolding base64_text
base64_utf8 bytes = string_utf8 (base64_text bytes) (IsUtf8-from_ascii (base64_text bytes) (IsAscii-encode_of standard bytes))

value_utf8 : (printable : Bool) (value : List ℕ) → is_printable value ≡ printable
    → IsUtf8 (if printable then codes "\"value\":" ++ json_string value else codes "\"valueBase64\":" ++ json_string (base64_text value))
value_utf8 true value e = IsUtf8-append (codes "\"value\":") (json_string value) (utf8_of (codes "\"value\":") refl) (string_utf8 value (utf8_of value (ascii_by (λ b. nat_le 32 b && nat_le b 126) value printable_small e)))
value_utf8 false value e = IsUtf8-append (codes "\"valueBase64\":") (json_string (base64_text value)) (utf8_of (codes "\"valueBase64\":") refl) (base64_utf8 value)

pub header_name : (header : Header) → IsTrue (is_header header) → is_token header.name ≡ true
header_name header h = (and_parts (is_token header.name) (not (list_any is_upper header.name)) (and_parts (is_token header.name && not (list_any is_upper header.name)) (list_all is_value_byte header.value) h).0).0

header_utf8 : (header : Header) → IsTrue (is_header header) → IsUtf8 (header_text header)
header_utf8 header h =
    IsUtf8-append _ _ (IsUtf8-append _ _ (IsUtf8-append _ _ (IsUtf8-append (codes "{\"name\":") (json_string header.name) (utf8_of (codes "{\"name\":") refl) (string_utf8 header.name (utf8_of header.name (token_ascii header.name (header_name header h)))))
    (utf8_of (codes ",") refl)) (value_utf8 (is_printable header.value) header.value refl)) (utf8_of (codes "}") refl)

pub rest_all : {X : Type 0} (P : X → Type 0) (x : X) (xs : List X) → All P (x ∷ xs) → All P xs
rest_all P x xs all = λ k d h. all (suc k) d (omega arith)

commas_utf8 : (headers : List Header) → All (λ header. IsTrue (is_header header)) headers → IsUtf8 (with_commas (map header_text headers))
commas_utf8 [] all = utf8_of [] refl
commas_utf8 (header ∷ []) all = header_utf8 header (all 0 header (omega arith))
commas_utf8 (header ∷ next ∷ headers) all =
    between 44 (header_text header) (with_commas (map header_text (next ∷ headers))) refl (header_utf8 header (all 0 header (omega arith))) (commas_utf8 (next ∷ headers) (rest_all (λ h. IsTrue (is_header h)) header (next ∷ headers) all))

list_utf8 : (headers : List Header) → All (λ header. IsTrue (is_header header)) headers → IsUtf8 (json_list (map header_text headers))
list_utf8 headers all = IsUtf8-append (91 ∷ []) _ (utf8_of (91 ∷ []) refl) (IsUtf8-append (with_commas (map header_text headers)) (93 ∷ []) (commas_utf8 headers all) (utf8_of (93 ∷ []) refl))

and_then : (front literal piece : List ℕ) → IsUtf8 front → are_ascii literal ≡ true → IsUtf8 piece → IsUtf8 (front ++ literal ++ piece)
and_then front literal piece u so v = IsUtf8-append (front ++ literal) piece (IsUtf8-append front literal u (utf8_of literal so)) v

pub request_utf8 : (request : Request) (limit : ℕ) → Within request limit → IsUtf8 (request_text request)
request_utf8 request limit within =
    let query = string_utf8 request.query (utf8_of request.query (ascii_by is_query_byte request.query query_small (and_parts (nat_le (length request.query) 4096) (list_all is_query_byte request.query) within.query).1)) in
    let path = string_utf8 request.path (utf8_of request.path (ascii_by is_path_byte request.path path_small (and_parts (starts_with ◌==◌ request.path (codes "/") && nat_le (length request.path) 4096) (list_all is_path_byte request.path) within.path).1)) in
    let method = string_utf8 request.method (utf8_of request.method (token_ascii request.method (and_parts (is_token request.method) (nat_le (length request.method) 32) within.method).0)) in
    let u1 = IsUtf8-append (codes "{\"args\":") (json_string request.query) (utf8_of (codes "{\"args\":") refl) query in
    let u2 = and_then _ (codes ",\"body\":") (json_string (base64_text request.body)) u1 refl (base64_utf8 request.body) in
    let u3 = and_then _ (codes ",\"clientIp\":") (json_string (address_text request.address)) u2 refl (string_utf8 (address_text request.address) (address_utf8 request.address)) in
    let u4 = and_then _ (codes ",\"headers\":") (json_list (map header_text request.headers)) u3 refl (list_utf8 request.headers within.headers) in
    let u5 = and_then _ (codes ",\"httpMethod\":") (json_string request.method) u4 refl method in
    let u6 = and_then _ (codes ",\"uri\":") (json_string request.path) u5 refl path in
    IsUtf8-append _ (codes "}") u6 (utf8_of (codes "}") refl)
