-- Where the header of a name stands.
use Rattle.std.proofs.Common.{◌≡◌, ℕ, zero, suc, ◌+◌, ◌<◌, ◌≤◌, List, [], ◌∷◌, ◌++◌, map, length, get_or, set, Bool, true, false, cond, not, ◌||◌, refl, sym, ap, ◌∙◌, arith, Vec, Global, true≢false}
use Rattle.std.proofs.lemmas.List.{get_or_default, length-map}
use Rattle.std.specs.List.{list_any, position_or_len}
use Rattle.std.specs.Str.{bytes_eq}
use Rattle.waf_model.specs.declared.request.Header.{Header}
use Rattle.request_parts.specs.JoinedHeaders.{joined_to, with_line}

-- the place of the first of the texts that equals this one
abbrev pub place_among : List ℕ → List (List ℕ) → ℕ
place_among name names = position_or_len (λ other. bytes_eq name other) names

-- the names of headers
abbrev pub names_of : List Header → List (List ℕ)
names_of headers = map (λ header. header.name) headers

-- a place among what is seen of a list
pub place_seen : {X : Type 0} (f : X → List ℕ) (name : List ℕ) (xs : List X) → position_or_len (λ x. bytes_eq name (f x)) xs ≡ place_among name (map f xs)
place_seen f name [] = refl
place_seen f name (x ∷ xs) = ap (λ n. cond (not (bytes_eq name (f x))) (1 + n) 0) (place_seen f name xs)

any_at : (b rest : Bool) (place n : ℕ) → (place < n → rest ≡ true) → cond (not b) (1 + place) 0 < suc n → (b || rest) ≡ true
any_at true rest place n later h = refl
any_at false rest place n later h = later (omega arith)

-- where it stands before the end, it is there
pub there : {X : Type 0} (f : X → List ℕ) (name : List ℕ) (xs : List X) → place_among name (map f xs) < length xs → list_any (λ x. bytes_eq name (f x)) xs ≡ true
there f name [] h = absurd (omega arith)
there f name (x ∷ xs) h = any_at (bytes_eq name (f x)) _ (place_among name (map f xs)) (length xs) (there f name xs) h

joined_at : (b : Bool) (place p : ℕ) (header : Header) (headers rest : List Header) (line : Header) → cond (not b) (1 + place) 0 ≡ p → p < suc (length headers)
    → ((q : ℕ) → place ≡ q → q < length headers → set headers q (joined_to (get_or headers q header) line) ≡ rest)
    → set (header ∷ headers) p (joined_to (get_or (header ∷ headers) p header) line) ≡ cond b (joined_to header line ∷ headers) (header ∷ rest)
joined_at true place zero header headers rest line is h later = refl
joined_at true place (suc p) header headers rest line is h later = absurd (omega arith)
joined_at false place zero header headers rest line is h later = absurd (omega arith)
joined_at false place (suc p) header headers rest line is h later = ap (λ hs. header ∷ hs) (later p (omega arith) (omega arith))

-- a line is joined to the header of its name
pub joined_there : (headers : List Header) (line d : Header) (p : ℕ) → place_among line.name (names_of headers) ≡ p → p < length headers
    → set headers p (joined_to (get_or headers p d) line) ≡ with_line headers line
joined_there [] line d p is h = absurd (omega arith)
joined_there (header ∷ headers) line d p is h =
    let front : get_or (header ∷ headers) p d ≡ get_or (header ∷ headers) p header = get_or_default (header ∷ headers) p d header h in
    ap (λ x. set (header ∷ headers) p (joined_to x line)) front
    ∙ joined_at (bytes_eq line.name header.name) (place_among line.name (names_of headers)) p header headers (with_line headers line) line is h
    (λ q at within. joined_there headers line header q at within)

new_at : (b : Bool) (place n : ℕ) (header : Header) (headers rest : List Header) (line : Header) → suc n ≤ cond (not b) (1 + place) 0
    → (n ≤ place → headers ++ line ∷ [] ≡ rest) → header ∷ (headers ++ line ∷ []) ≡ cond b (joined_to header line ∷ headers) (header ∷ rest)
new_at true place n header headers rest line h later = absurd (omega arith)
new_at false place n header headers rest line h later = ap (λ hs. header ∷ hs) (later (omega arith))

-- a line whose name no header has stands behind all
pub new_there : (headers : List Header) (line : Header) → length headers ≤ place_among line.name (names_of headers) → headers ++ line ∷ [] ≡ with_line headers line
new_there [] line h = refl
new_there (header ∷ headers) line h =
    new_at (bytes_eq line.name header.name) (place_among line.name (names_of headers)) (length headers) header headers (with_line headers line) line h (new_there headers line)

-- the names stay where a header keeps its own
pub names_stay : (headers : List Header) (p : ℕ) (header d : Header) → header.name ≡ (get_or headers p d).name → p < length headers → names_of (set headers p header) ≡ names_of headers
names_stay [] p header d same h = absurd (omega arith)
names_stay (first ∷ headers) zero header d same h = ap (λ n. n ∷ names_of headers) same
names_stay (first ∷ headers) (suc p) header d same h = ap (λ ns. first.name ∷ ns) (names_stay headers p header d same (omega arith))

-- the name of a header as it is kept among the names
abbrev pub key_bytes : Vec ℕ Global → List ℕ
key_bytes key = key.items

-- the place of a name among those that are kept is that of its header
pub at_keys : (keys : List (Vec ℕ Global)) (headers : List Header) (name line_name : List ℕ) (p : ℕ) → map key_bytes keys ≡ names_of headers → name ≡ line_name
    → p ≡ position_or_len (λ y. bytes_eq name (key_bytes y)) keys → place_among line_name (names_of headers) ≡ p
at_keys keys headers name line_name p same is at =
    sym (at ∙ place_seen key_bytes name keys ∙ ap (place_among name) same ∙ ap (λ n. place_among n (names_of headers)) is)

kept_if : (b : Bool) (keys other now : List (Vec ℕ Global)) → b ≡ true → now ≡ cond b keys other → now ≡ keys
kept_if true keys other now e is = is
kept_if false keys other now e is = absurd (true≢false (sym e))

-- a name that is there is kept once
pub keys_stay : (keys other now : List (Vec ℕ Global)) (headers : List Header) (name : List ℕ) (p : ℕ) → map key_bytes keys ≡ names_of headers
    → p ≡ position_or_len (λ y. bytes_eq name (key_bytes y)) keys → p < length headers → now ≡ cond (list_any (λ y. bytes_eq name (key_bytes y)) keys) keys other
    → map key_bytes now ≡ names_of headers
keys_stay keys other now headers name p same at within is =
    let many : length keys ≡ length headers = sym (length-map keys key_bytes) ∙ ap length same ∙ length-map headers (λ header. header.name) in
    let among : p ≡ place_among name (map key_bytes keys) = at ∙ place_seen key_bytes name keys in
    ap (map key_bytes) (kept_if (list_any (λ y. bytes_eq name (key_bytes y)) keys) keys other now (there key_bytes name keys (omega arith)) is) ∙ same
