-- The text of a request within the limits is read as that request.
use Rattle.std.proofs.Common.{◌≡◌, ℕ, zero, suc, ◌+◌, ◌<◌, ◌≤◌, ◌≢◌, List, [], ◌∷◌, ◌++◌, map, length, get_or, not, cond, Bool, true, false, ◌&&◌, true≢false, Some, None, Ok, inl, inr, refl, ap, ap₂, sym, ◌∙◌, subst, arith, append_assoc, append-nil}
use Rattle.std.proofs.lemmas.Bool.{and_parts, cases_lt, eq-eqb, le-leb, le-ltb, leb-true, lt-leb, lt-ltb, ne_eqb}
use Rattle.std.proofs.lemmas.Slice.Eq.{bytes_eq-Decides}
use Rattle.std.proofs.lemmas.Str.{utf8_valid_len-IsUtf8}
use Rattle.std.specs.Char.{to_ascii_lowercase}
use Rattle.std.specs.List.{fold, list_all, list_any}
use Rattle.std.specs.Prelude.{codes, nat_le, ◌==◌, if◌then◌else◌, All, AllPairs, IsTrue}
use Rattle.std.specs.Result.{result_ok}
use Rattle.std.specs.Str.{bytes_eq}
use Rattle.std.specs.Str.Lossy.{utf8_valid_len}
use Rattle.base64.proofs.EngineFacts.{decode_of-encode_of}
use Rattle.base64.specs.Engines.{standard}
use Rattle.base64.specs.GeneralPurpose.{IsBytes, decoded_of}
use Rattle.json_view.specs.Words.{each_from}
use Rattle.serde_json.specs.Data.{string, object, no_members, member}
use Rattle.serde_json.specs.Read.{read}
use Rattle.waf_model.specs.AddressText.{address_of}
use Rattle.waf_model.specs.Gives.{◌>>=◌}
use Rattle.waf_model.specs.Json.{index_path, member_path, parsed}
use Rattle.waf_model.specs.RequestText.{address_text, base64_text, is_printable, request_text}
use Rattle.waf_model.specs.Within.{Within, is_header, is_token, is_token_byte, is_upper, is_value_byte}
use Rattle.waf_model.specs.declared.request.Header.{Header}
use Rattle.waf_model.specs.declared.request.Request.{Request}
use Rattle.ip_text.proofs.Groups.{or_false}
use Rattle.request_parts.specs.JoinedHeaders.{joined, lowered, with_line}
use Rattle.request_parts.specs.RequestReading.{body_at, client_at, headers_at, headers_of, line_of, method_at, name_at, query_at, request_at, request_of, request_reading, value_at}
use Rattle.request_parts.proofs.Addresses.{address_reads}
use Rattle.request_parts.proofs.Ascii.{header_name, request_utf8, rest_all}
use Rattle.request_parts.proofs.Data.{elements_are, header_data, request_data, request_read}
use Rattle.request_parts.proofs.Places.{names_of, new_there, place_among}
use Rattle.request_parts.proofs.Trees.{value_name, value_text}

-- ---- different names are joined as they are

abbrev NotIn : List ℕ → List (List ℕ) → Type 0
NotIn name [] = Unit {0}
NotIn name (other ∷ others) = (name ≢ other) × NotIn name others

abbrev Distinct : List (List ℕ) → Type 0
Distinct [] = Unit {0}
Distinct (name ∷ names) = NotIn name names × Distinct names

not_in : (name : List ℕ) (others : List (List ℕ)) → ((k : ℕ) (d : List ℕ) → k < length others → name ≢ get_or others k d) → NotIn name others
not_in name [] none = tt
not_in name (other ∷ others) none = (none 0 name (omega arith), not_in name others (λ k d h. none (suc k) d (omega arith)))

distinct_from : (names : List (List ℕ)) → AllPairs (λ a b. a ≢ b) names → Distinct names
distinct_from [] pairs = tt
distinct_from (name ∷ names) pairs =
    (not_in name names (λ k d h. pairs 0 (suc k) d (omega arith) (omega arith)), distinct_from names (λ i j d h k. pairs (suc i) (suc j) d (omega arith) (omega arith)))

in_middle : (name other : List ℕ) (front back : List (List ℕ)) → NotIn name (front ++ other ∷ back) → name ≢ other
in_middle name other [] back h = h.0
in_middle name other (first ∷ front) back h = in_middle name other front back h.1

past_by : (b : Bool) (n place : ℕ) → b ≡ false → n ≤ place → suc n ≤ cond (not b) (1 + place) 0
past_by true n place e h = absurd (true≢false e)
past_by false n place e h = omega arith

not_equal : (name other : List ℕ) → (other ≢ name) → bytes_eq name other ≡ false
not_equal name other differ = by_test (bytes_eq name other) refl
  where
    by_test : (b : Bool) → bytes_eq name other ≡ b → b ≡ false
    by_test true e = absurd (differ (sym ((bytes_eq-Decides name other).0 e)))
    by_test false e = refl

-- a name that none of these is has no place among them
absent : (name : List ℕ) (back : List (List ℕ)) (headers : List Header) → Distinct (names_of headers ++ name ∷ back) → length headers ≤ place_among name (names_of headers)
absent name back [] distinct = omega arith
absent name back (header ∷ headers) distinct =
    past_by (bytes_eq name header.name) (length headers) (place_among name (names_of headers))
    (not_equal name header.name (in_middle header.name name (names_of headers) back distinct.0)) (absent name back headers distinct.1)

names_append : (some others : List Header) → names_of (some ++ others) ≡ names_of some ++ names_of others
names_append [] others = refl
names_append (header ∷ some) others = ap (λ names. header.name ∷ names) (names_append some others)

folded : (done rest : List Header) → Distinct (names_of done ++ names_of rest) → fold with_line done rest ≡ done ++ rest
folded done [] distinct = sym (append-nil done)
folded done (header ∷ rest) distinct =
    let longer : Distinct (names_of (done ++ header ∷ []) ++ names_of rest) =
    subst Distinct (sym (append_assoc (names_of done) (header.name ∷ []) (names_of rest)) ∙ ap (λ names. names ++ names_of rest) (sym (names_append done (header ∷ [])))) distinct in
    ap (λ headers. fold with_line headers rest) (sym (new_there done header (absent header.name (names_of rest) done distinct)))
    ∙ folded (done ++ header ∷ []) rest longer ∙ append_assoc done (header ∷ []) rest

lower_byte : (b : ℕ) → is_upper b ≡ false → to_ascii_lowercase b ≡ b
lower_byte b e =
    elim (cases_lt b 65) [
      | inl below ↦ rw (lt-ltb b 65 below) refl
      | inr from ↦ elim (cases_lt b 91) [
        | inl within ↦
            let upper : is_upper b ≡ true = rw (le-leb 65 b (omega arith), le-leb b 90 (omega arith)) refl in
            absurd (true≢false (sym upper ∙ e))
        | inr past ↦ rw (le-ltb b 65 (omega arith), le-ltb b 91 (omega arith)) refl
      ]
    ]

lower_bytes : (name : List ℕ) → list_any is_upper name ≡ false → map to_ascii_lowercase name ≡ name
lower_bytes [] e = refl
lower_bytes (b ∷ name) e =
    let (first, rest) = or_false (is_upper b) (list_any is_upper name) e in
    ap₂ (λ x xs. x ∷ xs) (lower_byte b first) (lower_bytes name rest)

no_upper : (b : Bool) → not b ≡ true → b ≡ false
no_upper true e = absurd (true≢false (sym e))
no_upper false e = refl

lower_header : (header : Header) → IsTrue (is_header header) → lowered header ≡ header
lower_header header h =
    let names = (and_parts (is_token header.name && not (list_any is_upper header.name)) (list_all is_value_byte header.value) h).0 in
    let lower = (and_parts (is_token header.name) (not (list_any is_upper header.name)) names).1 in
    ap (λ n. record header { name = n }) (lower_bytes header.name (no_upper (list_any is_upper header.name) lower))

lower_headers : (headers : List Header) → All (λ header. IsTrue (is_header header)) headers → map lowered headers ≡ headers
lower_headers [] all = refl
lower_headers (header ∷ headers) all =
    ap₂ (λ h hs. h ∷ hs) (lower_header header (all 0 header (omega arith))) (lower_headers headers (rest_all (λ h. IsTrue (is_header h)) header headers all))

joined_same : (headers : List Header) → All (λ header. IsTrue (is_header header)) headers → AllPairs (λ a b. a ≢ b) (names_of headers) → joined headers ≡ headers
joined_same headers all pairs = ap (fold with_line []) (lower_headers headers all) ∙ folded [] headers (distinct_from (names_of headers) pairs)

-- ---- base64

bytes_of : (bytes : List ℕ) → All (λ b. b < 256) bytes → IsBytes bytes
bytes_of [] all i = omega arith
bytes_of (b ∷ bytes) all zero = all 0 b (omega arith)
bytes_of (b ∷ bytes) all (suc i) = bytes_of bytes (rest_all (λ c. c < 256) b bytes all) i

decoded_back : (bytes : List ℕ) → IsBytes bytes → decoded_of standard (base64_text bytes) ≡ Some bytes
unfolding decoded_of base64_text
decoded_back bytes all = ap result_ok (decode_of-encode_of standard bytes refl all)

no_value_above : (b : ℕ) → 256 ≤ b → is_value_byte b ≡ false
no_value_above b h = rw (ne_eqb b 9 (omega arith), le-leb 32 b (omega arith), lt-leb b 126 (omega arith), le-leb 128 b (omega arith), lt-leb b 255 (omega arith)) refl

value_small : (b : ℕ) → is_value_byte b ≡ true → b < 256
value_small b e = elim (cases_lt b 256) [ inl small ↦ small | inr large ↦ absurd (true≢false (sym e ∙ no_value_above b (omega arith))) ]

value_bytes : (value : List ℕ) → list_all is_value_byte value ≡ true → IsBytes value
value_bytes [] all i = omega arith
value_bytes (b ∷ value) all zero = value_small b (and_parts (is_value_byte b) (list_all is_value_byte value) all).0
value_bytes (b ∷ value) all (suc i) = value_bytes value (and_parts (is_value_byte b) (list_all is_value_byte value) all).1 i

-- ---- the members

line_by : (printable : Bool) (name value path : List ℕ) → (length name == 0) ≡ false → decoded_of standard (base64_text value) ≡ Some value
    → line_of (object (member (codes "name") (string name) (member (value_name printable) (string (value_text printable value)) no_members))) path ≡ Ok (record { name = name; value = value })
unfolding name_at value_at
line_by true name value path long decoded = rw long refl
line_by false name value path long decoded = rw (long, decoded) refl

long_name : (name : List ℕ) → is_token name ≡ true → (length name == 0) ≡ false
long_name name e = ne_eqb (length name) 0 (let long : 1 ≤ length name = leb-true 1 (length name) (and_parts (nat_le 1 (length name)) (list_all is_token_byte name) e).0 in omega arith)

line_reads : (header : Header) (path : List ℕ) → IsTrue (is_header header) → line_of (header_data header) path ≡ Ok header
line_reads header path h =
    let bytes = value_bytes header.value (and_parts (is_token header.name && not (list_any is_upper header.name)) (list_all is_value_byte header.value) h).1 in
    line_by (is_printable header.value) header.name header.value path (long_name header.name (header_name header h)) (decoded_back header.value bytes)

lines_read : (headers : List Header) (index : ℕ) (path : List ℕ) → All (λ header. IsTrue (is_header header)) headers → each_from line_of index (map header_data headers) path ≡ Ok headers
lines_read [] index path all = refl
lines_read (header ∷ headers) index path all =
    ap (λ r. r >>= λ one. each_from line_of (index + 1) (map header_data headers) path >>= λ rest. Ok (one ∷ rest)) (line_reads header (index_path path index) (all 0 header (omega arith)))
    ∙ ap (λ r. r >>= λ rest. Ok (header ∷ rest)) (lines_read headers (index + 1) path (rest_all (λ h. IsTrue (is_header h)) header headers all))

headers_read : (request : Request) (path : List ℕ) → All (λ header. IsTrue (is_header header)) request.headers → AllPairs (λ a b. a ≢ b) (names_of request.headers)
    → headers_at (request_data request) path ≡ Ok request.headers
unfolding headers_at
headers_read request path all pairs =
    let at = member_path path (codes "headers") in
    ap (λ lines. headers_of lines at) (elements_are request.headers)
    ∙ ap (λ r. r >>= λ lines. Ok (joined lines)) (lines_read request.headers 0 at all)
    ∙ ap (λ headers. Ok headers) (joined_same request.headers all pairs)

method_reads : (request : Request) (path : List ℕ) → is_token request.method ≡ true → method_at (request_data request) path ≡ Ok request.method
unfolding method_at
method_reads request path token = rw token refl

query_reads : (request : Request) (path : List ℕ) → query_at (request_data request) path ≡ Ok request.query
unfolding query_at
query_reads request path = refl

client_reads : (request : Request) (path : List ℕ) → address_of (address_text request.address) ≡ Some request.address → client_at (request_data request) path ≡ Ok request.address
unfolding client_at
client_reads request path address = rw address refl

body_reads : (request : Request) (path : List ℕ) → decoded_of standard (base64_text request.body) ≡ Some request.body → body_at (request_data request) path ≡ Ok request.body
unfolding body_at
body_reads request path decoded = rw decoded refl

members_read : (request : Request) (path : List ℕ) → method_at (request_data request) path ≡ Ok request.method → query_at (request_data request) path ≡ Ok request.query
    → client_at (request_data request) path ≡ Ok request.address → headers_at (request_data request) path ≡ Ok request.headers → body_at (request_data request) path ≡ Ok request.body
    → request_at (request_data request) path ≡ Ok request
unfolding request_at
members_read request path method query client headers body = rw (method, query, client, headers, body) refl

request_reads : (request : Request) (limit : ℕ) (path : List ℕ) → Within request limit → request_at (request_data request) path ≡ Ok request
request_reads request limit path within =
    members_read request path (method_reads request path (and_parts (is_token request.method) (nat_le (length request.method) 32) within.method).0) (query_reads request path)
    (client_reads request path (address_reads request.address within.address)) (headers_read request path within.headers within.names)
    (body_reads request path (decoded_back request.body (bytes_of request.body within.body_bytes)))

-- ---- the text

text_parsed : (request : Request) (limit : ℕ) → Within request limit → parsed (request_text request) ≡ Some (request_data request)
text_parsed request limit within =
    let text = request_text request in
    let whole : (utf8_valid_len text == length text) ≡ true = eq-eqb (utf8_valid_len text) (length text) (utf8_valid_len-IsUtf8 text (request_utf8 request limit within)) in
    ap (λ t. if t then read text else None) whole ∙ request_read request

pub reads_back : (request : Request) (limit : ℕ) → Within request limit → request_reading (request_text request) ≡ Ok request
unfolding request_reading
reads_back request limit within = ap request_of (text_parsed request limit within) ∙ request_reads request limit (codes "$") within
