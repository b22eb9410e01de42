-- What is an element of lists that are joined, numbered, filtered or put in the order of the file.
use Rattle.std.proofs.Common.{◌≡◌, ◌≢◌, ℕ, zero, suc, ◌+◌, ◌<◌, ◌≤◌, ◌⊎◌, ◌↔◌, List, [], ◌∷◌, ◌++◌, length, get_or, map, flat_map, Bool, true, false, eqb, Option, Some, None, IsPermutation, inl, inr, refl, sym, ap, ◌∙◌, subst, arith}
use Rattle.std.proofs.lemmas.Bool.Decides.{nat_tests}
use Rattle.std.proofs.lemmas.Cmp.{nat_eq_equiv}
use Rattle.std.proofs.lemmas.List.{length-map}
use Rattle.std.proofs.lemmas.List.FromFn.{length-range_with_len, get_or-range_with_len}
use Rattle.std.proofs.lemmas.List.Sorted.{Contains-permutation, IsPermutation-sym}
use Rattle.std.proofs.lemmas.Map.Keys.{IsDistinct-from_apart, IsDistinct-IsPermutation, apart_from_distinct}
use Rattle.waf_laws.proofs.Pairs.{Each, Pairwise, pairwise_from}
use Rattle.std.specs.List.{IsDistinct, cons_option, enumerate_from, filter_map, range_with_len}
use Rattle.std.specs.Prelude.{AllPairs, Contains, find, slice_get, if◌then◌else◌, ◌==◌}
use Rattle.waf_model.specs.Written.{in_file_order}

-- x is an element of the list
abbrev pub In : {X : Type 0} → List X → X → Type 0
In [] x = ⊥
In (y ∷ ys) x = (y ≡ x) ⊎ In ys x

-- ---- joined lists

pub in_append : {X : Type 0} (xs ys : List X) (x : X) → In (xs ++ ys) x ↔ (In xs x ⊎ In ys x)
in_append [] ys x = (
  λ h. inr h,
  λ h. elim h [
    | inl none ↦ absurd none
    | inr some ↦ some
  ],
)
in_append (z ∷ xs) ys x = let rest = in_append xs ys x in (
  λ h. elim h [
    | inl first ↦ inl (inl first)
    | inr later ↦ elim (rest.0 later) [
      | inl one ↦ inl (inr one)
      | inr other ↦ inr other
    ]
  ],
  λ h. elim h [
    | inl one ↦ elim one [
      | inl first ↦ inl first
      | inr later ↦ inr (rest.1 (inl later))
    ]
    | inr other ↦ inr (rest.1 (inr other))
  ],
)

pub in_joined : {X Y : Type 0} (f : X → List Y) (xs : List X) (y : Y) → In (flat_map f xs) y ↔ ((x : X) × In xs x × In (f x) y)
in_joined f [] y = (λ h. absurd h, λ (x, none, there). absurd none)
in_joined {X} f (z ∷ xs) y =
    let rest = in_joined f xs y in
    let both = in_append (f z) (flat_map f xs) y in (
      λ h. elim (both.0 h) [
        | inl here ↦ (z, inl refl, here)
        | inr later ↦ let (x, is, there) = rest.0 later in (x, inr is, there)
      ],
      λ (x, is, there). both.1 (elim is [
        | inl same ↦ inl (subst (λ (u : X). In (f u) y) (sym same) there)
        | inr later ↦ inr (rest.1 (x, later, there))
      ]),
    )

-- ---- places in lists

pub in_at : {X : Type 0} (xs : List X) (x : X) → In xs x ↔ ((i : ℕ) × (slice_get xs i ≡ Some x))
in_at [] x = (λ h. absurd h, λ (i, at). cc)
in_at (y ∷ ys) x = let rest = in_at ys x in (
  λ h. elim h [
    | inl same ↦ (0, ap (λ z. Some z) same)
    | inr later ↦ let (i, at) = rest.0 later in (suc i, at)
  ],
  λ (i, at). by rest.1 i at,
)
  where
    by : (((i : ℕ) × (slice_get ys i ≡ Some x)) → In ys x) → (i : ℕ) → slice_get (y ∷ ys) i ≡ Some x → (y ≡ x) ⊎ In ys x
    by later zero at = inl (cc)
    by later (suc i) at = inr (later (i, at))

-- what is made of the elements with their indices
pub in_numbered : {X Y : Type 0} (h : ℕ × X → List Y) (n : ℕ) (xs : List X) (y : Y)
    → In (flat_map h (enumerate_from n xs)) y ↔ ((i : ℕ) × (x : X) × (slice_get xs i ≡ Some x) × In (h (n + i, x)) y)
in_numbered h n [] y = (λ h'. absurd h', λ (i, x, at, there). cc)
in_numbered {X} {Y} h n (z ∷ xs) y =
    let rest = in_numbered h (n + 1) xs y in
    let both = in_append (h (n, z)) (flat_map h (enumerate_from (n + 1) xs)) y in (
      λ h'. elim (both.0 h') [
        | inl here ↦ (0, z, refl, subst (λ (k : ℕ). In (h (k, z)) y) (omega arith) here)
        | inr later ↦ let (i, x, at, there) = rest.0 later in (suc i, x, at, subst (λ (k : ℕ). In (h (k, x)) y) (omega arith) there)
      ],
      λ (i, x, at, there). both.1 (by rest.1 i x at there),
    )
  where
    by : (((i : ℕ) × (x : X) × (slice_get xs i ≡ Some x) × In (h (n + 1 + i, x)) y) → In (flat_map h (enumerate_from (n + 1) xs)) y)
        → (i : ℕ) (x : X) → slice_get (z ∷ xs) i ≡ Some x → In (h (n + i, x)) y → In (h (n, z)) y ⊎ In (flat_map h (enumerate_from (n + 1) xs)) y
    by later zero x at there =
        let same : z ≡ x = cc in
        inl (subst (λ (u : X). In (h (n, u)) y) (sym same) (subst (λ (k : ℕ). In (h (k, x)) y) (omega arith) there))
    by later (suc i) x at there = inr (later (i, x, at, subst (λ (k : ℕ). In (h (k, x)) y) (omega arith) there))

-- ---- filtered lists

in_filtered : {X Y : Type 0} (h : X → Option Y) (xs : List X) (y : Y) → In (filter_map h xs) y ↔ ((x : X) × In xs x × (h x ≡ Some y))
in_filtered h [] y = (λ none. absurd none, λ (x, none, is). absurd none)
in_filtered {X} {Y} h (z ∷ xs) y = by (in_filtered h xs y) (h z) refl
  where
    by : In (filter_map h xs) y ↔ ((x : X) × In xs x × (h x ≡ Some y)) → (o : Option Y) → h z ≡ o
        → In (cons_option o (filter_map h xs)) y ↔ ((x : X) × In (z ∷ xs) x × (h x ≡ Some y))
    by rest None none = (
      λ later. let (x, is, gives) = rest.0 later in (x, inr is, gives),
      λ (x, is, gives). elim is [
        | inl same ↦ absurd (let e : h z ≡ Some y = ap h same ∙ gives in cc)
        | inr later ↦ rest.1 (x, later, gives)
      ],
    )
    by rest (Some first) some = (
      λ is. elim is [
        | inl same ↦ (z, inl refl, some ∙ ap (λ (u : Y). Some u) same)
        | inr later ↦ let (x, there, gives) = rest.0 later in (x, inr there, gives)
      ],
      λ (x, is, gives). elim is [
        | inl same ↦ inl (let e : Some first ≡ Some y = sym some ∙ ap h same ∙ gives in cc)
        | inr later ↦ inr (rest.1 (x, later, gives))
      ],
    )

pub found_in : {X : Type 0} (p : X → Bool) (xs : List X) (x : X) → find p xs ≡ Some x → In xs x
found_in p [] x is = cc
found_in p (z ∷ xs) x is = by (found_in p xs x) (p z) is
  where
    by : (find p xs ≡ Some x → In xs x) → (here : Bool) → (if here then Some z else find p xs) ≡ Some x → (z ≡ x) ⊎ In xs x
    by later true at = inl (cc)
    by later false at = inr (later at)

in_range : (n a k : ℕ) → a ≤ k → k < a + n → In (range_with_len a n) k
in_range zero a k least most = absurd (omega arith)
in_range (suc n) a k least most = by (λ more. in_range n (a + 1) k more (omega arith)) (eqb a k) refl
  where
    by : (a + 1 ≤ k → In (range_with_len (a + 1) n) k) → (same : Bool) → eqb a k ≡ same → (a ≡ k) ⊎ In (range_with_len (a + 1) n) k
    by later true is = inl (grind (arith, nat_tests, is))
    by later false is = inr (later (grind (arith, nat_tests, is, least)))

range_below : (n a k : ℕ) → In (range_with_len a n) k → k < a + n
range_below zero a k none = absurd none
range_below (suc n) a k (inl same) = omega arith
range_below (suc n) a k (inr later) = let below = range_below n (a + 1) k later in omega arith

-- ---- the order of the file

in_mapped : {X Y : Type 0} (f : X → Y) (xs : List X) (x : X) → In xs x → In (map f xs) (f x)
in_mapped f [] x none = none
in_mapped f (z ∷ xs) x (inl same) = inl (ap f same)
in_mapped f (z ∷ xs) x (inr later) = inr (in_mapped f xs x later)

pub contains_in : {X : Type 0} (xs : List X) (x : X) → In xs x → Contains xs x
contains_in [] x none = absurd none
contains_in (z ∷ xs) x (inl same) = (0, omega arith, same)
contains_in (z ∷ xs) x (inr later) = let (k, within, is) = contains_in xs x later in (suc k, omega arith, is)

pub in_contains : {X : Type 0} (xs : List X) (x : X) → Contains xs x → In xs x
in_contains [] x (k, within, is) = absurd (omega arith)
in_contains (z ∷ xs) x (zero, within, is) = inl is
in_contains (z ∷ xs) x (suc k, within, is) = inr (in_contains xs x (k, omega arith, is))

pub each_in : {X : Type 0} (P : X → Type 0) (xs : List X) (x : X) → Each P xs → In xs x → P x
each_in P [] x each none = absurd none
each_in P (z ∷ xs) x each (inl same) = subst P same each.0
each_in P (z ∷ xs) x each (inr later) = each_in P xs x each.1 later

flips : (a b : ℕ) → eqb a b ≡ eqb b a
flips a b = nat_eq_equiv.symm a b

different : (i j : ℕ) → i < j → eqb (0 + i) (0 + j) ≡ false
different i j less = grind (arith, nat_tests)

range_distinct : (n : ℕ) → IsDistinct eqb (range_with_len 0 n)
range_distinct n = IsDistinct-from_apart eqb (range_with_len 0 n) (λ i j d less within.
    let short : j < n = omega (arith, length-range_with_len 0 n) in
    let at_i : get_or (range_with_len 0 n) i d ≡ 0 + i = get_or-range_with_len 0 n i d (omega arith) in
    let at_j : get_or (range_with_len 0 n) j d ≡ 0 + j = get_or-range_with_len 0 n j d short in
    rw (at_i, at_j) (different i j less))

places_differ : (places : List ℕ) → IsPermutation (range_with_len 0 (length places)) places → AllPairs (λ a b. a ≢ b) places
places_differ places is i j d less within same =
    let apart = apart_from_distinct eqb places i j d (IsDistinct-IsPermutation eqb flips (range_with_len 0 (length places)) places is (range_distinct (length places))) less within in
    grind (arith, nat_tests, apart, same)

-- the first rule with the place of a rule is that rule, where places differ
found_own : {R : Type 0} (place_of : R → ℕ) (rules : List R) (rule : R) → Pairwise (λ a b. place_of a ≢ place_of b) rules → In rules rule
    → find (λ one. place_of one == place_of rule) rules ≡ Some rule
found_own place_of [] rule differ none = absurd none
found_own {R} place_of (first ∷ rules) rule differ is = by (found_own place_of rules rule differ.1) is (place_of first == place_of rule) refl
  where
    by : (In rules rule → find (λ one. place_of one == place_of rule) rules ≡ Some rule) → (first ≡ rule) ⊎ In rules rule
        → (here : Bool) → (place_of first == place_of rule) ≡ here → (if here then Some first else find (λ one. place_of one == place_of rule) rules) ≡ Some rule
    by later (inl same) true at = ap (λ (r : R). Some r) same
    by later (inl same) false at = absurd (let e : place_of first ≡ place_of rule = ap place_of same in grind (arith, nat_tests, at, e))
    by later (inr other) true at = absurd (each_in (λ one. place_of first ≢ place_of one) rules rule differ.0 other (grind (arith, nat_tests, at)))
    by later (inr other) false at = later other

-- where the places are those of the file, its order has the very rules
pub in_file : {R : Type 0} (place_of : R → ℕ) (rules : List R) → IsPermutation (range_with_len 0 (length (map place_of rules))) (map place_of rules) → (rule : R)
    → In (in_file_order place_of rules) rule ↔ In rules rule
in_file place_of rules is rule =
    let filtered = in_filtered (λ place. find (λ one. place_of one == place) rules) (range_with_len 0 (length rules)) rule in (
      λ h. let (place, among, found) = filtered.0 h in found_in (λ one. place_of one == place) rules rule found,
      λ h. filtered.1 (
        place_of rule,
        in_range (length rules) 0 (place_of rule) (omega arith) (below h),
        found_own place_of rules rule (pairwise_from (λ a b. a ≢ b) place_of rules (places_differ (map place_of rules) is)) h,
      ),
    )
  where
    below : In rules rule → place_of rule < 0 + length rules
    below h =
        let there = contains_in (map place_of rules) (place_of rule) (in_mapped place_of rules rule h) in
        let numbered = in_contains (range_with_len 0 (length (map place_of rules))) (place_of rule)
        (Contains-permutation (map place_of rules) (range_with_len 0 (length (map place_of rules))) (place_of rule)
        (IsPermutation-sym (range_with_len 0 (length (map place_of rules))) (map place_of rules) is) there) in
        let less = range_below (length (map place_of rules)) 0 (place_of rule) numbered in
        omega (arith, length-map rules place_of)
