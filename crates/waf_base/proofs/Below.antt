-- Facts on different numbers below a number.
use Prim.Native.Nat.{zero, suc}
use Rattle.std.proofs.Common.{◌≡◌, ℕ, ◌+◌, ◌<◌, ◌≤◌, ◌⊎◌, eqb, List, length, get_or, map, refl, sym, ap, ◌∙◌, subst, inl, inr, arith}
use Rattle.std.specs.List.{All, range_with_len}
use Rattle.std.proofs.lemmas.Bool.{cases_lt, cases_eq, ne_eqb, eqb-true}
use Rattle.std.proofs.lemmas.List.Elements.{All-contains}
use Rattle.std.proofs.lemmas.List.FromFn.{length-map-range_with_len, get_or-map-range_with_len}
use Rattle.std.proofs.lemmas.Map.Keys.{IsDistinct-from_apart}
use Rattle.std.proofs.lemmas.Map.Steps.{length-le_from_distinct_below}
use Rattle.std.proofs.lemmas.Map.Views.{Contains-from_any}

module _ (f : ℕ → ℕ) (n m : ℕ) (below : (i : ℕ) → i < m → f i < n) (apart : (i j : ℕ) → i < j → j < m → f i ≡ f j → ⊥) where
  abbrev numbers : List ℕ
  numbers = map f (range_with_len 0 m)

  numbers-at : (i d : ℕ) → i < m → get_or numbers i d ≡ f i
  numbers-at i d l = get_or-map-range_with_len f 0 m i i d l (omega arith)

  within : (i : ℕ) → i < length numbers → i < m
  within i l = omega (arith, l, length-map-range_with_len f 0 m)

  all-below : All (λ s. s < n) numbers
  all-below = λ i d l. subst (λ s. s < n) (sym (numbers-at i d (within i l))) (below i (within i l))

  different : (i j d : ℕ) → i < j → j < length numbers → get_or numbers i d ≡ get_or numbers j d → ⊥
  different i j d lt l e = apart i j lt (within j l) (sym (numbers-at i d (omega (arith, lt, within j l))) ∙ e ∙ numbers-at j d (within j l))

  -- so many different numbers below n are at most n
  pub pigeonhole : m ≤ n
  pigeonhole =
      omega (
        arith,
        length-le_from_distinct_below numbers n (IsDistinct-from_apart eqb numbers (λ i j d l k. ne_eqb (get_or numbers i d) (get_or numbers j d) (different i j d l k)))
            (λ q t. All-contains (λ s. s < n) numbers q all-below (Contains-from_any (λ x y e. eqb-true x y e) q numbers t)),
        length-map-range_with_len f 0 m,
      )

-- whether some number below n is taken to k
taken : (f : ℕ → ℕ) (k n : ℕ) → ((j : ℕ) × (j < n) × (f j ≡ k)) ⊎ ((j : ℕ) → j < n → f j ≡ k → ⊥)
taken f k zero = inr (λ j l e. omega (arith, l))
taken f k (suc n) =
    elim (cases_eq (f n) k) [
      | inl here ↦ inl (n, omega arith, here)
      | inr not_here ↦
          elim (taken f k n) [
            | inl below ↦ inl (below.0, omega (arith, below.1), below.2)
            | inr none ↦ inr (λ j l e. elim (cases_lt j n) [ inl lt ↦ none j lt e | inr ge ↦ not_here (ap f (let same : n ≡ j = omega (arith, l, ge) in same) ∙ e) ])
          ]
    ]

module _ (f : ℕ → ℕ) (n : ℕ) (below : (i : ℕ) → i < n → f i < n) (apart : (i j : ℕ) → i < j → j < n → f i ≡ f j → ⊥) (k : ℕ) (within_n : k < n) where
  -- the numbers, and then k
  abbrev more-to : (i : ℕ) → (i < n) ⊎ (n ≤ i) → ℕ
  more-to i (inl lt) = f i
  more-to i (inr ge) = k

  more-front : (i : ℕ) (c : (i < n) ⊎ (n ≤ i)) → i < n → more-to i c ≡ f i
  more-front i (inl lt) h = refl
  more-front i (inr ge) h = absurd (omega (arith, ge, h))

  more-last : (i : ℕ) (c : (i < n) ⊎ (n ≤ i)) → n ≤ i → more-to i c ≡ k
  more-last i (inl lt) h = absurd (omega (arith, lt, h))
  more-last i (inr ge) h = refl

  more-below : (i : ℕ) (c : (i < n) ⊎ (n ≤ i)) → more-to i c < n
  more-below i (inl lt) = below i lt
  more-below i (inr ge) = within_n

  more-apart : ((j : ℕ) → j < n → f j ≡ k → ⊥) → (i j : ℕ) → i < j → j < n + 1 → more-to i (cases_lt i n) ≡ more-to j (cases_lt j n) → ⊥
  more-apart none i j lt h e =
      let in_i : i < n = omega (arith, lt, h) in
      elim (cases_lt j n) [
        | inl in_j ↦ apart i j lt in_j (sym (more-front i (cases_lt i n) in_i) ∙ e ∙ more-front j (cases_lt j n) in_j)
        | inr behind ↦ none i in_i (sym (more-front i (cases_lt i n) in_i) ∙ e ∙ more-last j (cases_lt j n) behind)
      ]

  -- n different numbers below n are all of them
  pub all-taken : (j : ℕ) × (j < n) × (f j ≡ k)
  all-taken =
      elim (taken f k n) [
        | inl found ↦ found
        | inr none ↦ absurd (let many : n + 1 ≤ n = pigeonhole (λ i. more-to i (cases_lt i n)) n (n + 1) (λ i h. more-below i (cases_lt i n)) (more-apart none) in omega (arith, many))
      ]
