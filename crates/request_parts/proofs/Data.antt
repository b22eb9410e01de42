-- The value that serde_json reads from the text of a request.
use Rattle.std.proofs.Common.{◌≡◌, ℕ, ◌≤◌, List, [], ◌∷◌, map, Bool, true, false, Some, option_and_then, option_map, refl, ap, sym, ◌∙◌, arith, append-nil}
use Rattle.std.specs.Prelude.{codes}
use Rattle.json.proofs.Printed.Tokens.{tokens-print}
use Rattle.json.proofs.Printed.Trees.{ArePrintable-json_tokens, value-json_tokens}
use Rattle.json.specs.Json as json
use Rattle.json.specs.Lex.{tokens}
use Rattle.json.specs.Tree.{HasNumbers, ItemsHaveNumbers, depth, items_depth, json_tokens}
use Rattle.serde_json.specs.Data.{Data, string, array, object, Items, no_items, item, no_members, member}
use Rattle.serde_json.specs.Read.{of_items, of_json, read}
use Rattle.waf_model.specs.Json.{elements}
use Rattle.waf_model.specs.RequestText.{address_text, base64_text, is_printable, request_text}
use Rattle.waf_model.specs.declared.request.Header.{Header}
use Rattle.waf_model.specs.declared.request.Request.{Request}
use Rattle.request_parts.proofs.Trees.{header_json, headers_json, request_json, request_printed, value_name, value_text}

abbrev pub header_data : Header → Data
header_data header = object (member (codes "name") (string header.name)
    (member (value_name (is_printable header.value)) (string (value_text (is_printable header.value) header.value)) no_members))

abbrev pub headers_data : List Header → Items
headers_data [] = no_items
headers_data (header ∷ headers) = item (header_data header) (headers_data headers)

abbrev pub request_data : Request → Data
request_data request = object (member (codes "args") (string request.query)
    (member (codes "body") (string (base64_text request.body))
    (member (codes "clientIp") (string (address_text request.address))
    (member (codes "headers") (array (headers_data request.headers))
    (member (codes "httpMethod") (string request.method)
    (member (codes "uri") (string request.path) no_members))))))

pub elements_are : (headers : List Header) → elements (headers_data headers) ≡ map header_data headers
elements_are [] = refl
elements_are (header ∷ headers) = ap (λ ds. header_data header ∷ ds) (elements_are headers)

-- ---- from JSON

header_by : (printable : Bool) (name value : List ℕ)
    → of_json (json.object (json.member (codes "name") (json.string name) (json.member (value_name printable) (json.string (value_text printable value)) json.no_members)))
    ≡ Some (object (member (codes "name") (string name) (member (value_name printable) (string (value_text printable value)) no_members)))
header_by true name value = refl
header_by false name value = refl

of_header : (header : Header) → of_json (header_json header) ≡ Some (header_data header)
of_header header = header_by (is_printable header.value) header.name header.value

of_headers : (headers : List Header) → of_items (headers_json headers) ≡ Some (headers_data headers)
of_headers [] = refl
of_headers (header ∷ headers) =
    ap (option_and_then (λ d. option_map (item d) (of_items (headers_json headers)))) (of_header header) ∙ ap (option_map (item (header_data header))) (of_headers headers)

of_request : (request : Request) → of_json (request_json request) ≡ Some (request_data request)
of_request request = rw (of_headers request.headers) refl

-- ---- from the text

header_numbers : (printable : Bool) (name value : List ℕ)
    → HasNumbers (json.object (json.member (codes "name") (json.string name) (json.member (value_name printable) (json.string (value_text printable value)) json.no_members)))
header_numbers printable name value = (tt, (tt, tt))

headers_numbers : (headers : List Header) → ItemsHaveNumbers (headers_json headers)
headers_numbers [] = tt
headers_numbers (header ∷ headers) = (header_numbers (is_printable header.value) header.name header.value, headers_numbers headers)

request_numbers : (request : Request) → HasNumbers (request_json request)
request_numbers request = (tt, (tt, (tt, (headers_numbers request.headers, (tt, (tt, tt))))))

headers_depth : (headers : List Header) → items_depth (headers_json headers) ≤ 1
headers_depth [] = omega arith
headers_depth (header ∷ headers) = omega (arith, headers_depth headers)

request_depth : (request : Request) → depth (request_json request) ≤ 127
request_depth request = omega (arith, headers_depth request.headers)

text_tokens : (request : Request) → tokens (request_text request) ≡ json_tokens (request_json request)
text_tokens request = ap tokens (sym (request_printed request)) ∙ tokens-print (json_tokens (request_json request)) (ArePrintable-json_tokens (request_json request) (request_numbers request))

pub request_read : (request : Request) → read (request_text request) ≡ Some (request_data request)
request_read request =
    ap (λ ts. option_and_then of_json (option_and_then (λ p. json.if_last p.0 p.1) (json.value 127 ts))) (text_tokens request ∙ sym (append-nil (json_tokens (request_json request))))
    ∙ ap (λ o. option_and_then of_json (option_and_then (λ p. json.if_last p.0 p.1) o)) (value-json_tokens (request_json request) 127 [] (request_depth request))
    ∙ of_request request
