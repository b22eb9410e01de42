-- The entries that fit one by one are the longest prefix that isn't over.
use Rattle.std.proofs.Common.{◌≡◌, ◌⊎◌, ℕ, zero, suc, ◌-◌, ◌<◌, ◌≤◌, List, [], ◌∷◌, length, take, Bool, true, false, ◌&&◌, ◌||◌, leb, ltb, le-leb, lt-ltb, true≢false, refl, sym, ap, ap₂, ◌∙◌, subst, arith, inl, inr}
use Rattle.std.proofs.lemmas.Bool.{and_parts, cases_eq, cases_lt, le-ltb, leb-true, ltb-true}
use Rattle.std.proofs.lemmas.List.{length-take-le}
use Rattle.std.proofs.lemmas.List.Sums.{sum_by-cons}
use Rattle.std.specs.List.{sum_by}
use Rattle.std.specs.Prelude.{if◌then◌else◌}
use Rattle.request_parts.specs.Fitting.{fitting}
use Rattle.waf_model.specs.Inspected.{inspected, is_over, longest, most_bytes, most_entries}

-- what fits is a prefix that has no more entries and no more bytes, and every longer prefix has more of one
record Fits {X : Type 0} (size : X → ℕ) (count room : ℕ) (entries kept : List X) : Type 0 where
  number : ℕ
  within : number ≤ length entries
  front : kept ≡ take number entries
  few : number ≤ count
  small : sum_by size kept ≤ room
  longer : (n : ℕ) → number < n → n ≤ length entries → (count < n) ⊎ (room < sum_by size (take n entries))

-- no entry fits
none_fits : {X : Type 0} (size : X → ℕ) (count room : ℕ) (x : X) (xs : List X) → (count ≡ 0) ⊎ (room < size x) → Fits size count room (x ∷ xs) []
none_fits size count room x xs past = record {
  number = 0;
  within = omega arith;
  front = refl;
  few = omega arith;
  small = omega arith;
  longer = λ n more inside. from n more past;
}
  where
    from : (n : ℕ) → 0 < n → (count ≡ 0) ⊎ (room < size x) → (count < n) ⊎ (room < sum_by size (take n (x ∷ xs)))
    from zero more past = absurd (omega arith)
    from (suc n) more (inl none) = inl (omega arith)
    from (suc n) more (inr large) = inr (omega (arith, sum_by-cons size x (take n xs)))

-- one entry more fits
one_fits : {X : Type 0} (size : X → ℕ) (count room : ℕ) (x : X) (xs kept : List X) → 0 < count → size x ≤ room → Fits size (count - 1) (room - size x) xs kept → Fits size count room (x ∷ xs) (x ∷ kept)
one_fits size count room x xs kept some small f = record {
  number = suc f.number;
  within = omega (arith, f.within);
  front = ap (λ ys. x ∷ ys) f.front;
  few = omega (arith, f.few);
  small = omega (arith, f.small, sum_by-cons size x kept);
  longer = λ n more inside. from n more inside;
}
  where
    past : (n : ℕ) → (count - 1 < n) ⊎ (room - size x < sum_by size (take n xs)) → (count < suc n) ⊎ (room < sum_by size (x ∷ take n xs))
    past n (inl many) = inl (omega arith)
    past n (inr large) = inr (omega (arith, sum_by-cons size x (take n xs)))

    from : (n : ℕ) → suc f.number < n → n ≤ length (x ∷ xs) → (count < n) ⊎ (room < sum_by size (take n (x ∷ xs)))
    from zero more inside = absurd (omega arith)
    from (suc n) more inside = past n (f.longer n (omega arith) (omega arith))

-- why an entry doesn't fit
refused : (count room n : ℕ) (few small : Bool) → ltb 0 count ≡ few → leb n room ≡ small → (few && small) ≡ false → (count ≡ 0) ⊎ (room < n)
refused count room n few small a b e =
    elim (cases_lt 0 count) [
      | inl some ↦ elim (cases_lt room n) [
        | inl large ↦ inr large
        | inr fit ↦ absurd (true≢false (sym (ap₂ (λ x y. x && y) (sym a ∙ lt-ltb 0 count some) (sym b ∙ le-leb n room (omega arith))) ∙ e))
      ]
      | inr none ↦ inl (omega arith)
    ]

fits : {X : Type 0} (size : X → ℕ) (count room : ℕ) (entries : List X) → Fits size count room entries (fitting size count room entries)
fits size count room [] = record { number = 0; within = omega arith; front = refl; few = omega arith; small = omega arith; longer = λ n more inside. absurd (omega arith) }
fits size count room (x ∷ xs) = by_test (ltb 0 count && leb (size x) room) refl (fits size (count - 1) (room - size x) xs)
  where
    by_test : (t : Bool) → (ltb 0 count && leb (size x) room) ≡ t → Fits size (count - 1) (room - size x) xs (fitting size (count - 1) (room - size x) xs)
        → Fits size count room (x ∷ xs) (if t then x ∷ fitting size (count - 1) (room - size x) xs else [])
    by_test true e f =
        let p = and_parts (ltb 0 count) (leb (size x) room) e in
        one_fits size count room x xs (fitting size (count - 1) (room - size x) xs) (ltb-true 0 count p.0) (leb-true (size x) room p.1) f
    by_test false e f = none_fits size count room x xs (refused count room (size x) (ltb 0 count) (leb (size x) room) refl refl e)

-- ---- the longest

or_true : (b : Bool) → (b || true) ≡ true
or_true true = refl
or_true false = refl

over_from : {X : Type 0} (size : X → ℕ) (entries : List X) → (200 < length entries) ⊎ (8192 < sum_by size entries) → is_over size entries ≡ true
over_from size entries (inl many) = ap (λ t. t || ltb 8192 (sum_by size entries)) (lt-ltb 200 (length entries) many)
over_from size entries (inr large) = ap (λ t. ltb 200 (length entries) || t) (lt-ltb 8192 (sum_by size entries) large) ∙ or_true (ltb 200 (length entries))

not_over : {X : Type 0} (size : X → ℕ) (entries : List X) → length entries ≤ 200 → sum_by size entries ≤ 8192 → is_over size entries ≡ false
not_over size entries few small = ap₂ (λ x y. x || y) (le-ltb 200 (length entries) few) (le-ltb 8192 (sum_by size entries) small)

-- from the number that fits on, the longest prefix is the one that fits
walked : {X : Type 0} (size : X → ℕ) (entries kept : List X) (f : Fits size 200 8192 entries kept) (m : ℕ) → f.number ≤ m → m ≤ length entries → longest size entries m ≡ kept
walked size entries kept f zero from inside = let none : 0 ≡ f.number = omega arith in ap (λ n. take n entries) none ∙ sym f.front
walked size entries kept f (suc m) from inside =
    elim (cases_eq f.number (suc m)) [
      | inl here ↦
          let count : length (take (suc m) entries) ≤ 200 = omega (arith, length-take-le (suc m) entries inside, f.few) in
          let front : take (suc m) entries ≡ kept = ap (λ n. take n entries) (sym here) ∙ sym f.front in
          let total : sum_by size (take (suc m) entries) ≤ 8192 = subst (λ ys. sum_by size ys ≤ 8192) (sym front) f.small in
          ap (λ t. if t then longest size entries m else take (suc m) entries) (not_over size (take (suc m) entries) count total) ∙ front
      | inr other ↦
          let over = over_from size (take (suc m) entries) (past (f.longer (suc m) (omega arith) inside)) in
          ap (λ t. if t then longest size entries m else take (suc m) entries) over ∙ walked size entries kept f m (omega arith) (omega arith)
    ]
  where
    past : (200 < suc m) ⊎ (8192 < sum_by size (take (suc m) entries)) → (200 < length (take (suc m) entries)) ⊎ (8192 < sum_by size (take (suc m) entries))
    past (inl many) = inl (omega (arith, length-take-le (suc m) entries inside))
    past (inr large) = inr large

pub fitting_is_inspected : {X : Type 0} (size : X → ℕ) (entries : List X) → fitting size most_entries most_bytes entries ≡ inspected size entries
fitting_is_inspected size entries =
    let f = fits size 200 8192 entries in
    sym (walked size entries (fitting size 200 8192 entries) f (length entries) f.within (omega arith))
