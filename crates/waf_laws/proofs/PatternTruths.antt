-- A pattern is found in a text exactly where trying all places finds it.
use Rattle.std.proofs.Common.{◌≡◌, ℕ, zero, suc, ◌+◌, ◌-◌, ◌<◌, ◌≤◌, ◌⊎◌, ◌↔◌, List, length, Bool, false, ◌&&◌, ◌||◌, ◌==◌, IsTrue, Option, Some, None, inl, inr, refl, sym, ap, ◌∙◌, subst, arith}
use Rattle.std.proofs.lemmas.Bool.{false≢true}
use Rattle.std.specs.Prelude.{slice_get, IfSome}
use Rattle.std.specs.Option.{option_map_or}
use Rattle.std.specs.List.{list_any, range_with_len}
use Rattle.waf_laws.proofs.Truths.{both_decided, either_decided, known, same_decided, at_most_decided, numbered, place_decided}
use Rattle.waf_model.specs.Pattern.{Expression, nothing, empty, one_of, start, end, final, both, either, repeat, expression, has_byte, Times, Matches, Found}
use Rattle.waf_model.specs.PatternTruth.{some_place, follow, byte_passes, within_most, is_match, is_found}
use Rattle.waf_model.specs.declared.pattern.Pattern.{Pattern}

-- ---- matches go forward

times_forward : (R : ℕ → ℕ → Type 0) → ((i j : ℕ) → R i j → i ≤ j) → (n i j : ℕ) → Times R n i j → i ≤ j
times_forward R forward zero i j is = omega arith
times_forward R forward (suc n) i j (m, first, rest) =
    let one = forward i m first in
    let more = times_forward R forward n m j rest in
    omega arith

match_forward : (w : List ℕ) (e : Expression) (i j : ℕ) → Matches w e i j → i ≤ j
match_forward w nothing i j h = absurd h
match_forward w empty i j h = omega arith
match_forward w (one_of set) i j (b, there, has, is) = omega arith
match_forward w start i j (at, is) = omega arith
match_forward w end i j (at, is) = omega arith
match_forward w final i j (at, is) = omega arith
match_forward w (both a b) i j (m, first, second) =
    let one = match_forward w a i m first in
    let other = match_forward w b m j second in
    omega arith
match_forward w (either a b) i j h = elim h [
  | inl one ↦ match_forward w a i j one
  | inr other ↦ match_forward w b i j other
]
match_forward w (repeat a least most) i j (n, enough, few, rounds) = times_forward (Matches w a) (match_forward w a) n i j rounds

-- ---- rounds that match nothing can be left out

fewer : (R : ℕ → ℕ → Type 0) → ((i j : ℕ) → R i j → i ≤ j) → (n i j : ℕ) → Times R n i j → (least : ℕ) → least ≤ n
    → (k : ℕ) × (least ≤ k) × (k ≤ n) × (k ≤ least + (j - i)) × Times R k i j
fewer R forward zero i j rounds least enough = (0, omega arith, omega arith, omega arith, rounds)
fewer R forward (suc n) i j (m, first, rest) zero enough =
    let shorter = fewer R forward n m j rest 0 (omega arith) in
    let ahead = forward i m first in
    let on = times_forward R forward n m j rest in
    let short = shorter.2 in
    let bound = shorter.3 in
    elim (known (i == m) (i ≡ m) (same_decided i m)) [
      | inl same ↦ (shorter.0, omega arith, omega arith, omega arith, subst (λ (x : ℕ). Times R shorter.0 x j) (sym same) shorter.4)
      | inr other ↦ (suc shorter.0, omega arith, omega arith, grind (arith, ahead, on, bound, other), (m, first, shorter.4))
    ]
fewer R forward (suc n) i j (m, first, rest) (suc least) enough =
    let shorter = fewer R forward n m j rest least (omega arith) in
    let ahead = forward i m first in
    let on = times_forward R forward n m j rest in
    let long = shorter.1 in
    let short = shorter.2 in
    let bound = shorter.3 in
    (suc shorter.0, omega arith, omega arith, omega arith, (m, first, shorter.4))

-- ---- what follows one another

follow_decided : (r : ℕ → ℕ → Bool) (R : ℕ → ℕ → Type 0) → ((i j : ℕ) → IsTrue (r i j) ↔ R i j) → ((i j : ℕ) → R i j → i ≤ j)
    → (n i j : ℕ) → IsTrue (follow r n i j) ↔ Times R n i j
follow_decided r R each forward zero i j = same_decided j i
follow_decided r R each forward (suc n) i j =
    let some = place_decided (λ m. r i m && follow r n m j) (λ m. R i m × Times R n m j)
    (λ m. both_decided (r i m) (follow r n m j) (R i m) (Times R n m j) (each i m) (follow_decided r R each forward n m j)) i j
    (λ m (first, rest). (forward i m first, times_forward R forward n m j rest)) in
    (λ h. let (m, (first, rest)) = some.0 h in (m, first, rest), λ (m, first, rest). some.1 (m, (first, rest)))

most_decided : (most : Option ℕ) (n : ℕ) → IsTrue (within_most most n) ↔ IfSome most (λ m. n ≤ m)
most_decided None n = (λ h. tt, λ h. refl)
most_decided (Some m) n = at_most_decided n m

most_fewer : (most : Option ℕ) (k n : ℕ) → k ≤ n → IfSome most (λ m. n ≤ m) → IfSome most (λ m. k ≤ m)
most_fewer None k n less few = tt
most_fewer (Some m) k n less few = omega arith

rounds_decided : (r : ℕ → ℕ → Bool) (R : ℕ → ℕ → Type 0) → ((i j : ℕ) → IsTrue (r i j) ↔ R i j) → ((i j : ℕ) → R i j → i ≤ j)
    → (least : ℕ) (most : Option ℕ) (i j : ℕ)
    → IsTrue (list_any (λ n. within_most most n && follow r n i j) (range_with_len least (j - i + 1)))
    ↔ ((n : ℕ) × (least ≤ n) × IfSome most (λ m. n ≤ m) × Times R n i j)
rounds_decided r R each forward least most i j =
    let some = numbered (λ n. within_most most n && follow r n i j) (λ n. IfSome most (λ m. n ≤ m) × Times R n i j)
    (λ n. both_decided (within_most most n) (follow r n i j) (IfSome most (λ m. n ≤ m)) (Times R n i j) (most_decided most n) (follow_decided r R each forward n i j))
    (j - i + 1) least in (
      λ h. let found = some.0 h in (found.0, found.1, found.3.0, found.3.1),
      λ (n, enough, few, rounds).
          let shorter = fewer R forward n i j rounds least enough in
          let bound = shorter.3 in
          some.1 (shorter.0, shorter.1, omega arith, (most_fewer most shorter.0 n shorter.2 few, shorter.4)),
    )

-- ---- matches

byte_decided : (passes : ℕ → Bool) (w : List ℕ) (i : ℕ) → IsTrue (byte_passes passes w i) ↔ ((b : ℕ) × (slice_get w i ≡ Some b) × IsTrue (passes b))
byte_decided passes w i = by (slice_get w i)
  where
    by : (o : Option ℕ) → IsTrue (option_map_or passes o false) ↔ ((b : ℕ) × (o ≡ Some b) × IsTrue (passes b))
    by None = (λ h. absurd (false≢true h), λ (b, is, holds). cc)
    by (Some x) = (λ h. (x, refl, h), λ (b, is, holds). let same : x ≡ b = cc in subst (λ (y : ℕ). IsTrue (passes y)) (sym same) holds)

ten_decided : (w : List ℕ) (i : ℕ) → IsTrue (byte_passes (λ b. b == 10) w i) ↔ (slice_get w i ≡ Some 10)
ten_decided w i =
    let some = byte_decided (λ b. b == 10) w i in (
      λ h. let found = some.0 h in found.1 ∙ ap (λ (b : ℕ). Some b) ((same_decided found.0 10).0 found.2),
      λ is. some.1 (10, is, refl),
    )

pub match_decided : (w : List ℕ) (e : Expression) (i j : ℕ) → IsTrue (is_match w e i j) ↔ Matches w e i j
match_decided w nothing i j = (λ h. absurd (false≢true h), λ h. absurd h)
match_decided w empty i j = same_decided j i
match_decided w (one_of set) i j =
    let joined = both_decided (byte_passes (has_byte set) w i) (j == i + 1) ((b : ℕ) × (slice_get w i ≡ Some b) × IsTrue (has_byte set b)) (j ≡ i + 1)
    (byte_decided (has_byte set) w i) (same_decided j (i + 1)) in (
      λ h. let found = joined.0 h in (found.0.0, found.0.1, found.0.2, found.1),
      λ (b, there, has, is). joined.1 ((b, there, has), is),
    )
match_decided w start i j = both_decided (i == 0) (j == i) (i ≡ 0) (j ≡ i) (same_decided i 0) (same_decided j i)
match_decided w end i j = both_decided (i == length w) (j == i) (i ≡ length w) (j ≡ i) (same_decided i (length w)) (same_decided j i)
match_decided w final i j =
    both_decided (i == length w || (i + 1 == length w && byte_passes (λ b. b == 10) w i)) (j == i)
    ((i ≡ length w) ⊎ ((i + 1 ≡ length w) × (slice_get w i ≡ Some 10))) (j ≡ i)
    (either_decided (i == length w) (i + 1 == length w && byte_passes (λ b. b == 10) w i) (i ≡ length w) ((i + 1 ≡ length w) × (slice_get w i ≡ Some 10))
    (same_decided i (length w))
    (both_decided (i + 1 == length w) (byte_passes (λ b. b == 10) w i) (i + 1 ≡ length w) (slice_get w i ≡ Some 10) (same_decided (i + 1) (length w)) (ten_decided w i)))
    (same_decided j i)
match_decided w (both a b) i j =
    let some = place_decided (λ m. is_match w a i m && is_match w b m j) (λ m. Matches w a i m × Matches w b m j)
    (λ m. both_decided (is_match w a i m) (is_match w b m j) (Matches w a i m) (Matches w b m j) (match_decided w a i m) (match_decided w b m j)) i j
    (λ m (first, second). (match_forward w a i m first, match_forward w b m j second)) in
    (λ h. let (m, (first, second)) = some.0 h in (m, first, second), λ (m, first, second). some.1 (m, (first, second)))
match_decided w (either a b) i j =
    either_decided (is_match w a i j) (is_match w b i j) (Matches w a i j) (Matches w b i j) (match_decided w a i j) (match_decided w b i j)
match_decided w (repeat a least most) i j =
    rounds_decided (is_match w a) (Matches w a) (match_decided w a) (match_forward w a) least most i j

-- ---- patterns

-- an end of a match that begins at i
abbrev EndsFrom : List ℕ → Expression → ℕ → Type 0
EndsFrom w e i = (j : ℕ) × (i ≤ j) × (j < i + (length w - i + 1)) × Matches w e i j

pub found_decided : (p : Pattern) (w : List ℕ) → IsTrue (is_found p w) ↔ Found p w
found_decided p w =
    let e : Expression = expression p in
    let some = numbered (λ i. some_place (is_match w e i) i (length w)) (EndsFrom w e)
    (λ i. numbered (is_match w e i) (Matches w e i) (match_decided w e i) (length w - i + 1) i) (length w - 0 + 1) 0 in (
      λ h.
          let (i, least, most, (j, from, to, matches)) = some.0 h in
          (i, j, (from, omega arith, matches)),
      λ (i, j, (ahead, inside, matches)). some.1 (i, omega arith, omega arith, (j, ahead, omega arith, matches)),
    )
