-- Requests within the limits: nothing is oversized, and header names are exact.
use Rattle.std.proofs.Common.{◌≡◌, ℕ, suc, ◌+◌, ◌≤◌, List, [], ◌∷◌, length, map, filter, Bool, true, false, not, ◌&&◌, ◌||◌, ◌==◌, nat_le, nat_lt, All, IsTrue, Option, Some, None, inl, inr, refl, sym, ap, ◌∙◌, arith}
use Rattle.std.proofs.lemmas.Bool.{false≢true}
use Rattle.std.proofs.lemmas.Bool.Decides.{nat_tests}
use Rattle.std.proofs.lemmas.List.{length-drop}
use Rattle.std.proofs.lemmas.List.Sums.{sum_by-cons}
use Rattle.std.proofs.lemmas.Str.Ascii.{lowercase_is}
use Rattle.std.specs.Char.{to_ascii_lowercase}
use Rattle.std.specs.List.{list_all, list_any, prefix_len, sum_by}
use Rattle.std.specs.Option.{option_map_or}
use Rattle.std.specs.Prelude.{codes, find, option_map, if◌then◌else◌}
use Rattle.std.specs.Str.{bytes_eq, str_eq_ignore_ascii_case}
use Rattle.waf_laws.proofs.Truths.{at_most_decided, known}
use Rattle.waf_model.specs.HeaderNames.{lower_name, value_named}
use Rattle.waf_model.specs.Inspected.{is_over}
use Rattle.waf_model.specs.Pieces.{begin_with, cookies_of, cut, without_spaces}
use Rattle.waf_model.specs.Shown.{cookie_size, header_size, is_oversized, request_cookies}
use Rattle.waf_model.specs.Within.{Within, header_bytes, is_header, is_token, is_upper, is_value_byte, value_of_header}
use Rattle.waf_model.specs.declared.field.Field.{Field}
use Rattle.waf_model.specs.declared.field.Field.TheVariants.{Method, UriPath, QueryString, Header, Argument, AllArguments, Body, Headers, Cookies}
use Rattle.waf_model.specs.declared.request.Header as requests
use Rattle.waf_model.specs.declared.request.Request.{Request}

-- ---- what is not over

not_above : (a b : ℕ) → b ≤ a → nat_lt a b ≡ false
not_above a b most = grind (arith, nat_tests, most)

not_over : {X : Type 0} (size : X → ℕ) (entries : List X) → length entries ≤ 200 → sum_by size entries ≤ 8192 → is_over size entries ≡ false
not_over size entries few small = rw (not_above 200 (length entries) few) (not_above 8192 (sum_by size entries) small)

-- ---- cookies have no more bytes than their header's value

sum_filtered : (p : List ℕ → Bool) (pieces : List (List ℕ)) → sum_by length (filter p pieces) ≤ sum_by length pieces
sum_filtered p [] = omega arith
sum_filtered p (piece ∷ pieces) = by (sum_filtered p pieces) (p piece)
  where
    by : sum_by length (filter p pieces) ≤ sum_by length pieces → (kept : Bool)
        → sum_by length (if kept then piece ∷ filter p pieces else filter p pieces) ≤ sum_by length (piece ∷ pieces)
    by rest true = omega (arith, sum_by-cons length piece (filter p pieces), sum_by-cons length piece pieces)
    by rest false = omega (arith, sum_by-cons length piece pieces)

trimmed_bytes : (piece : List ℕ) → length (without_spaces piece) ≤ length piece
trimmed_bytes piece = omega (arith, length-drop (prefix_len (λ b. b == 32) piece) piece)

sum_trimmed : (pieces : List (List ℕ)) → sum_by length (map without_spaces pieces) ≤ sum_by length pieces
sum_trimmed [] = omega arith
sum_trimmed (piece ∷ pieces) =
    let rest = sum_trimmed pieces in
    let first = trimmed_bytes piece in
    omega (arith, sum_by-cons length (without_spaces piece) (map without_spaces pieces), sum_by-cons length piece pieces)

sum_begun : (b : ℕ) (pieces : List (List ℕ)) → sum_by length (begin_with b pieces) ≡ 1 + sum_by length pieces
sum_begun b [] = refl
sum_begun b (piece ∷ pieces) = omega (arith, sum_by-cons length (b ∷ piece) pieces, sum_by-cons length piece pieces)

sum_cut : (byte : ℕ) (text : List ℕ) → sum_by length (cut byte text) ≤ length text
sum_cut byte [] = omega arith
sum_cut byte (b ∷ text) = by (sum_cut byte text) (b == byte)
  where
    by : sum_by length (cut byte text) ≤ length text → (here : Bool)
        → sum_by length (if here then [] ∷ cut byte text else begin_with b (cut byte text)) ≤ length (b ∷ text)
    by rest true = omega (arith, sum_by-cons length [] (cut byte text))
    by rest false = omega (arith, sum_begun b (cut byte text))

cookie_bytes : (value : List ℕ) → sum_by cookie_size (cookies_of value) ≤ length value
cookie_bytes value =
    let kept = sum_filtered (λ piece. not (length piece == 0)) (map without_spaces (cut 59 value)) in
    let trimmed = sum_trimmed (cut 59 value) in
    let whole = sum_cut 59 value in
    omega arith

-- ---- a header's value has no more bytes than all headers

value_bytes : (p : requests.Header → Bool) (headers : List requests.Header) (value : List ℕ)
    → option_map (λ header. header.value) (find p headers) ≡ Some value → length value ≤ header_bytes headers
value_bytes p [] value is = absurd (cc)
value_bytes p (header ∷ headers) value is = by (value_bytes p headers value) (p header) is
  where
    more : header_bytes (header ∷ headers) ≡ length header.name + length header.value + header_bytes headers
    more = sum_by-cons (λ (one : requests.Header). length one.name + length one.value) header headers

    by : (option_map (λ header. header.value) (find p headers) ≡ Some value → length value ≤ header_bytes headers) → (here : Bool)
        → option_map (λ header. header.value) (if here then Some header else find p headers) ≡ Some value
        → length value ≤ header_bytes (header ∷ headers)
    by later true is = let same : header.value ≡ value = cc in omega (arith, more, ap length same)
    by later false is = let less = later is in omega (arith, more)

cookies_not_over : (request : Request) (limit : ℕ) → Within request limit → is_over cookie_size (request_cookies request) ≡ false
cookies_not_over request limit within =
    by (value_of_header request (codes "cookie")) within.cookies
    (λ value is. value_bytes (λ header. str_eq_ignore_ascii_case header.name (codes "cookie")) request.headers value is)
  where
    by : (there : Option (List ℕ)) → option_map_or (λ value. length (cookies_of value)) there 0 ≤ 200
        → ((value : List ℕ) → there ≡ Some value → length value ≤ header_bytes request.headers)
        → is_over cookie_size (option_map_or cookies_of there []) ≡ false
    by None few short = not_over cookie_size [] (omega arith) (omega arith)
    by (Some value) few short =
        let bytes = short value refl in
        let total = within.header_total in
        not_over cookie_size (cookies_of value) few (omega (arith, cookie_bytes value))

-- nothing that a field shows is oversized in a request within the limits, where so many bytes of a body are inspected
pub not_oversized : (field : Field) (request : Request) (most limit : ℕ) → Within request most → most ≤ limit → is_oversized field request limit ≡ false
not_oversized Method request most limit within larger = refl
not_oversized UriPath request most limit within larger = refl
not_oversized QueryString request most limit within larger = refl
not_oversized (Header name) request most limit within larger = refl
not_oversized (Argument name) request most limit within larger = refl
not_oversized AllArguments request most limit within larger = refl
not_oversized (Body oversize) request most limit within larger =
    let short = within.body in
    not_above limit (length request.body) (omega arith)
not_oversized (Headers filter part oversize) request most limit within larger = not_over header_size request.headers within.header_count within.header_total
not_oversized (Cookies filter part oversize) request most limit within larger = cookies_not_over request most within

-- ---- names in lower case

lower_byte : (b : ℕ) → is_upper b ≡ false → to_ascii_lowercase b ≡ b
lower_byte b small = elim (known (nat_le 65 b) (65 ≤ b) (at_most_decided 65 b)) [
  | inl least ↦ elim (known (nat_le b 90) (b ≤ 90) (at_most_decided b 90)) [
    | inl most ↦ absurd (false≢true (sym small ∙ both_true (nat_le 65 b) (nat_le b 90) ((at_most_decided 65 b).1 least) ((at_most_decided b 90).1 most)))
    | inr more ↦ (lowercase_is b).2 (grind (arith, more))
  ]
  | inr less ↦ (lowercase_is b).1 (grind (arith, less))
]
  where
    both_true : (one other : Bool) → one ≡ true → other ≡ true → (one && other) ≡ true
    both_true true other first second = second
    both_true false other first second = first

none_first : {X : Type 0} (p : X → Bool) (x : X) (xs : List X) → list_any p (x ∷ xs) ≡ false → (p x ≡ false) × (list_any p xs ≡ false)
none_first p x xs = by (p x)
  where
    by : (here : Bool) → (here || list_any p xs) ≡ false → (here ≡ false) × (list_any p xs ≡ false)
    by true none = absurd (false≢true (sym none))
    by false none = (refl, none)

lower_stays : (name : List ℕ) → list_any is_upper name ≡ false → lower_name name ≡ name
lower_stays [] small = refl
lower_stays (b ∷ name) small =
    let (here, later) = none_first is_upper b name small in
    ap (λ (c : ℕ). c ∷ lower_name name) (lower_byte b here) ∙ ap (λ (rest : List ℕ). b ∷ rest) (lower_stays name later)

-- a header within the limits has a name in lower case
header_is_lower : (header : requests.Header) → IsTrue (is_header header) → list_any is_upper header.name ≡ false
header_is_lower header = by (is_token header.name) (list_any is_upper header.name) (list_all is_value_byte header.value)
  where
    by : (token upper value : Bool) → IsTrue (token && not upper && value) → upper ≡ false
    by true true value is = absurd (false≢true is)
    by true false value is = refl
    by false upper value is = absurd (false≢true is)

found_same : (name : List ℕ) (headers : List requests.Header) → All (λ header. IsTrue (is_header header)) headers
    → find (λ header. str_eq_ignore_ascii_case header.name name) headers ≡ find (λ header. bytes_eq header.name (lower_name name)) headers
found_same name [] all = refl
found_same name (header ∷ headers) all =
    let here : str_eq_ignore_ascii_case header.name name ≡ bytes_eq header.name (lower_name name) =
    ap (λ (own : List ℕ). bytes_eq own (lower_name name)) (lower_stays header.name (header_is_lower header (all 0 header (omega arith)))) in
    ap (λ (here : Bool). if here then Some header else find (λ (one : requests.Header). str_eq_ignore_ascii_case one.name name) headers) here
    ∙ ap (λ (rest : Option requests.Header). if bytes_eq header.name (lower_name name) then Some header else rest)
    (found_same name headers (λ k d within. all (suc k) d (omega arith)))

-- within the limits the value of a header is that of the header of exactly that name, in lower case
pub exact_name : (request : Request) (limit : ℕ) (name : List ℕ) → Within request limit → value_of_header request name ≡ value_named request (lower_name name)
exact_name request limit name within = ap (option_map (λ (header : requests.Header). header.value)) (found_same name request.headers within.headers)
