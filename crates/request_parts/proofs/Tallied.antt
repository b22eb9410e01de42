-- Cookies that are counted byte by byte.
use Rattle.std.proofs.Common.{◌≡◌, ℕ, suc, ◌+◌, List, [], ◌∷◌, length, drop, map, filter, Bool, true, false, cond, not, refl, sym, ap, ◌∙◌, arith}
use Rattle.std.proofs.lemmas.Bool.{ne_eqb}
use Rattle.std.proofs.lemmas.List.Sums.{sum_by-cons}
use Rattle.std.specs.Prelude.{◌==◌}
use Rattle.std.specs.List.{prefix_len, sum_by}
use Rattle.waf_model.specs.Pieces.{cut, cookies_of, without_spaces}
use Rattle.request_parts.specs.CookieTally.{cookie_more, tally}
use Rattle.waf_model.specs.Shown.{cookie_size}

-- the cookies among pieces
abbrev among : List (List ℕ) → List (List ℕ)
among pieces = filter (λ piece. not (length piece == 0)) (map without_spaces pieces)

-- counts that are those of these cookies, and of so many bytes more
abbrev Are : ℕ × ℕ → List (List ℕ) → ℕ → Type 0
Are counts cookies more = (counts.0 ≡ length cookies) × (counts.1 ≡ more + sum_by cookie_size cookies)

-- what is counted from a byte on, by the pieces from there on
record Counted (bytes : List ℕ) : Type 0 where
  first : List ℕ
  others : List (List ℕ)
  is : cut 59 bytes ≡ first ∷ others
  inside : Are (tally true bytes) (among others) (length first)
  outside : Are (tally false bytes) (among (first ∷ others)) 0

ended : (bytes : List ℕ) (c : Counted bytes) → Are (tally false bytes) (among (cut 59 bytes)) 0
ended bytes c = (c.outside.0 ∙ ap (λ p. length (among p)) (sym c.is), c.outside.1 ∙ ap (λ p. 0 + sum_by cookie_size (among p)) (sym c.is))

passed : (n : ℕ) (b : ℕ) (first : List ℕ) → drop (1 + n) (b ∷ first) ≡ drop n first
passed n b first = ap (λ m. drop m (b ∷ first)) (let one : 1 + n ≡ suc n = omega arith in one)

-- a space in front of a piece
spaced : (b : ℕ) (first : List ℕ) (others : List (List ℕ)) → (b == 32) ≡ true → among ((b ∷ first) ∷ others) ≡ among (first ∷ others)
spaced b first others space =
    let same : without_spaces (b ∷ first) ≡ without_spaces first =
    ap (λ t. drop (cond t (1 + prefix_len (λ x. x == 32) first) 0) (b ∷ first)) space ∙ passed (prefix_len (λ x. x == 32) first) b first in
    ap (λ piece. filter (λ p. not (length p == 0)) (piece ∷ map without_spaces others)) same

-- another byte in front of a piece
begun : (b : ℕ) (first : List ℕ) (others : List (List ℕ)) → (b == 32) ≡ false → among ((b ∷ first) ∷ others) ≡ (b ∷ first) ∷ among others
begun b first others other =
    let same : without_spaces (b ∷ first) ≡ b ∷ first = ap (λ t. drop (cond t (1 + prefix_len (λ x. x == 32) first) 0) (b ∷ first)) other in
    let long : (suc (length first) == 0) ≡ false = ne_eqb (suc (length first)) 0 (omega arith) in
    ap (λ piece. filter (λ p. not (length p == 0)) (piece ∷ map without_spaces others)) same
    ∙ ap (λ t. cond (not t) ((b ∷ first) ∷ among others) (among others)) long

skips : (b : ℕ) (bytes : List ℕ) → (b == 59) ≡ false → (b == 32) ≡ true → tally false (b ∷ bytes) ≡ tally false bytes
skips b bytes es ex = rw (es, ex) refl

begins : (b : ℕ) (bytes : List ℕ) → (b == 59) ≡ false → (b == 32) ≡ false → tally false (b ∷ bytes) ≡ cookie_more (tally true bytes)
begins b bytes es ex = rw (es, ex) refl

more : (semicolon space : Bool) (b : ℕ) (bytes : List ℕ) → (b == 59) ≡ semicolon → (b == 32) ≡ space → Counted bytes → Counted (b ∷ bytes)
more true space b bytes es ex c = record {
  first = [];
  others = cut 59 bytes;
  is = rw es refl;
  inside = rw es (ended bytes c);
  outside = rw es (ended bytes c);
}
more false true b bytes es ex c = record {
  first = b ∷ c.first;
  others = c.others;
  is = rw (es, c.is) refl;
  inside = rw es (c.inside.0, omega (arith, c.inside.1));
  outside = (
    ap (λ n. n.0) (skips b bytes es ex) ∙ c.outside.0 ∙ ap length (sym (spaced b c.first c.others ex)),
    ap (λ n. n.1) (skips b bytes es ex) ∙ c.outside.1 ∙ ap (λ p. 0 + sum_by cookie_size p) (sym (spaced b c.first c.others ex)),
  );
}
more false false b bytes es ex c =
    let front = begun b c.first c.others ex in
    let sum = sum_by-cons cookie_size (b ∷ c.first) (among c.others) in
    let count : (tally true bytes).0 + 1 ≡ length ((b ∷ c.first) ∷ among c.others) = omega (arith, c.inside.0) in
    let total : (tally true bytes).1 + 1 ≡ 0 + sum_by cookie_size ((b ∷ c.first) ∷ among c.others) = omega (arith, c.inside.1, sum) in
    record {
      first = b ∷ c.first;
      others = c.others;
      is = rw (es, c.is) refl;
      inside = rw es (c.inside.0, omega (arith, c.inside.1));
      outside = (ap (λ n. n.0) (begins b bytes es ex) ∙ count ∙ ap length (sym front), ap (λ n. n.1) (begins b bytes es ex) ∙ total ∙ ap (λ p. 0 + sum_by cookie_size p) (sym front));
    }

counted : (bytes : List ℕ) → Counted bytes
counted [] = record { first = []; others = []; is = refl; inside = (refl, refl); outside = (refl, refl) }
counted (b ∷ bytes) = more (b == 59) (b == 32) b bytes refl refl (counted bytes)

pub tallied : (value : List ℕ) → ((tally false value).0 ≡ length (cookies_of value)) × ((tally false value).1 ≡ sum_by cookie_size (cookies_of value))
tallied value = let e = ended value (counted value) in (e.0, omega (arith, e.1))
