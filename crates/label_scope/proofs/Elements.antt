-- What is an element of lists that are joined, or whose elements are put in order.
use Rattle.std.proofs.Common.{◌≡◌, ℕ, zero, suc, ◌<◌, ◌≤◌, ◌⊎◌, ◌↔◌, List, [], ◌∷◌, ◌++◌, map, flat_map, inl, inr, refl, sym, ap, ◌∙◌, subst, arith}
use Rattle.std.proofs.lemmas.Bool.{cases_lt}
use Rattle.std.proofs.lemmas.Cmp.{nat_list_cmp_total}
use Rattle.std.proofs.lemmas.Map.Lookups.{exact_bytes}
use Rattle.std.specs.BTreeSet.{insert_key}
use Rattle.std.specs.Cmp.Lexicographic.{slice_cmp}
use Rattle.std.specs.Ordering.{match_ordering, nat_cmp, ordering_reverse}
use Rattle.std.specs.declared.cmp.Ordering.{Ordering}
use Rattle.std.specs.declared.cmp.Ordering.TheVariants.{Less, Equal, Greater}
use Rattle.std.specs.Prelude.{All, AllPairs, Any}
use Rattle.label_scope.specs.Vocabulary.{put_in_order}

-- x is an element of the list
abbrev pub In : {X : Type 0} → List X → X → Type 0
In [] x = ⊥
In (y ∷ ys) x = (y ≡ x) ⊎ In ys x

-- ---- the library's words

pub in_any : {X : Type 0} (P : X → Type 0) (xs : List X) → Any P xs → (x : X) × In xs x × P x
in_any P [] some = absurd (let within = some.2 in omega arith)
in_any P (x ∷ xs) (zero, y, within, is, holds) = (x, inl refl, subst P (sym is) holds)
in_any P (x ∷ xs) (suc k, y, within, is, holds) = let (z, among, there) = in_any P xs (k, y, omega arith, is, holds) in (z, inr among, there)

pub any_in : {X : Type 0} (P : X → Type 0) (xs : List X) (x : X) → In xs x → P x → Any P xs
any_in P [] x none holds = absurd none
any_in P (y ∷ xs) x (inl same) holds = (0, y, omega arith, refl, subst P (sym same) holds)
any_in P (y ∷ xs) x (inr later) holds = let some = any_in P xs x later holds in (suc some.0, some.1, (let within = some.2 in omega arith), some.3, some.4)

pub in_all : {X : Type 0} (P : X → Type 0) (xs : List X) (x : X) → All P xs → In xs x → P x
in_all P [] x all none = absurd none
in_all P (y ∷ xs) x all (inl same) = subst P same (all 0 x (omega arith))
in_all P (y ∷ xs) x all (inr later) = in_all P xs x (λ k d within. all (suc k) d (omega arith)) later

pub all_in : {X : Type 0} (P : X → Type 0) (xs : List X) → ((x : X) → In xs x → P x) → All P xs
all_in P [] each k d within = absurd (omega arith)
all_in P (y ∷ xs) each zero d within = each y (inl refl)
all_in P (y ∷ xs) each (suc k) d within = all_in P xs (λ x among. each x (inr among)) k d (omega arith)

-- ---- joined lists

pub in_append : {X : Type 0} (xs ys : List X) (x : X) → In (xs ++ ys) x ↔ (In xs x ⊎ In ys x)
in_append [] ys x = (
  λ h. inr h,
  λ h. elim h [
    | inl none ↦ absurd none
    | inr some ↦ some
  ],
)
in_append (z ∷ xs) ys x = let rest = in_append xs ys x in (
  λ h. elim h [
    | inl first ↦ inl (inl first)
    | inr later ↦ elim (rest.0 later) [
      | inl one ↦ inl (inr one)
      | inr other ↦ inr other
    ]
  ],
  λ h. elim h [
    | inl one ↦ elim one [
      | inl first ↦ inl first
      | inr later ↦ inr (rest.1 (inl later))
    ]
    | inr other ↦ inr (rest.1 (inr other))
  ],
)

pub in_joined : {X Y : Type 0} (f : X → List Y) (xs : List X) (y : Y) → In (flat_map f xs) y ↔ ((x : X) × In xs x × In (f x) y)
in_joined f [] y = (λ h. absurd h, λ (x, none, there). absurd none)
in_joined {X} f (z ∷ xs) y =
    let rest = in_joined f xs y in
    let both = in_append (f z) (flat_map f xs) y in (
      λ h. elim (both.0 h) [
        | inl here ↦ (z, inl refl, here)
        | inr later ↦ let (x, is, there) = rest.0 later in (x, inr is, there)
      ],
      λ (x, is, there). both.1 (elim is [
        | inl same ↦ inl (subst (λ (u : X). In (f u) y) (sym same) there)
        | inr later ↦ inr (rest.1 (x, later, there))
      ]),
    )

pub in_map : {X Y : Type 0} (f : X → Y) (xs : List X) (y : Y) → In (map f xs) y ↔ ((x : X) × In xs x × (f x ≡ y))
in_map f [] y = (λ h. absurd h, λ (x, none, there). absurd none)
in_map f (z ∷ xs) y = let rest = in_map f xs y in (
  λ h. elim h [
    | inl same ↦ (z, inl refl, same)
    | inr later ↦ let (x, is, there) = rest.0 later in (x, inr is, there)
  ],
  λ (x, is, there). elim is [
    | inl same ↦ inl (ap f same ∙ there)
    | inr later ↦ inr (rest.1 (x, later, there))
  ],
)

-- ---- texts in order

abbrev order : List ℕ → List ℕ → Ordering
order = slice_cmp nat_cmp

in_inserted : (xs : List (List ℕ)) (k q : List ℕ) → In (insert_key order xs k) q ↔ (In xs q ⊎ (k ≡ q))
in_inserted [] k q = (
  λ h. elim h [
    | inl same ↦ inr same
    | inr none ↦ absurd none
  ],
  λ h. elim h [
    | inl none ↦ absurd none
    | inr same ↦ inl same
  ],
)
in_inserted (x ∷ xs) k q = by (order k x) refl (in_inserted xs k q)
  where
    by : (o : Ordering) → order k x ≡ o → In (insert_key order xs k) q ↔ (In xs q ⊎ (k ≡ q))
        → In (match_ordering o (k ∷ x ∷ xs) (x ∷ xs) (x ∷ insert_key order xs k)) q ↔ (In (x ∷ xs) q ⊎ (k ≡ q))
    by Less is rest = (
      λ h. elim h [
        | inl same ↦ inr same
        | inr there ↦ inl there
      ],
      λ h. elim h [
        | inl there ↦ inr there
        | inr same ↦ inl same
      ],
    )
    by Equal is rest = (
      λ h. inl h,
      λ h. elim h [
        | inl there ↦ there
        | inr same ↦ inl (sym (exact_bytes k x is) ∙ same)
      ],
    )
    by Greater is rest = (
      λ h. elim h [
        | inl first ↦ inl (inl first)
        | inr later ↦ elim (rest.0 later) [
          | inl there ↦ inl (inr there)
          | inr same ↦ inr same
        ]
      ],
      λ h. elim h [
        | inl one ↦ elim one [
          | inl first ↦ inl first
          | inr later ↦ inr (rest.1 (inl later))
        ]
        | inr same ↦ inr (rest.1 (inr same))
      ],
    )

pub in_order : (labels more : List (List ℕ)) (q : List ℕ) → In (put_in_order labels more) q ↔ (In labels q ⊎ In more q)
in_order labels [] q = (
  λ h. inl h,
  λ h. elim h [
    | inl there ↦ there
    | inr none ↦ absurd none
  ],
)
in_order labels (k ∷ more) q =
    let rest = in_order (insert_key order labels k) more q in
    let first = in_inserted labels k q in (
      λ h. elim (rest.0 h) [
        | inl early ↦ elim (first.0 early) [
          | inl there ↦ inl there
          | inr same ↦ inr (inl same)
        ]
        | inr later ↦ inr (inr later)
      ],
      λ h. rest.1 (elim h [
        | inl there ↦ inl (first.1 (inl there))
        | inr one ↦ elim one [
          | inl same ↦ inl (first.1 (inr same))
          | inr later ↦ inr later
        ]
      ]),
    )

-- each text is below those behind it
abbrev Ascends : List (List ℕ) → Type 0
Ascends [] = Unit {0}
Ascends (x ∷ xs) = ((q : List ℕ) → In xs q → order x q ≡ Less) × Ascends xs

ascends_inserted : (xs : List (List ℕ)) (k : List ℕ) → Ascends xs → Ascends (insert_key order xs k)
ascends_inserted [] k ascends = ((λ q none. absurd none), tt)
ascends_inserted (x ∷ xs) k (below, ascends) = by (order k x) refl (ascends_inserted xs k ascends)
  where
    by : (o : Ordering) → order k x ≡ o → Ascends (insert_key order xs k) → Ascends (match_ordering o (k ∷ x ∷ xs) (x ∷ xs) (x ∷ insert_key order xs k))
    by Less is rest = (
      (λ q there. elim there [
        | inl same ↦ subst (λ (u : List ℕ). order k u ≡ Less) same is
        | inr later ↦ nat_list_cmp_total.trans k x q is (below q later)
      ]),
      (below, ascends),
    )
    by Equal is rest = (below, ascends)
    by Greater is rest = (
      (λ q there. elim ((in_inserted xs k q).0 there) [
        | inl later ↦ below q later
        | inr same ↦ subst (λ (u : List ℕ). order x u ≡ Less) same (nat_list_cmp_total.antisymm x k ∙ ap ordering_reverse is)
      ]),
      rest,
    )

ascends_in_order : (labels more : List (List ℕ)) → Ascends labels → Ascends (put_in_order labels more)
ascends_in_order labels [] ascends = ascends
ascends_in_order labels (k ∷ more) ascends = ascends_in_order (insert_key order labels k) more (ascends_inserted labels k ascends)

not_below_itself : (x : List ℕ) → order x x ≡ Less → ⊥
not_below_itself x is = let turned : Less ≡ ordering_reverse Less = sym is ∙ nat_list_cmp_total.antisymm x x ∙ ap ordering_reverse is in cc

-- no two of the texts that ascend meet what only equal ones meet
pairs_apart : (R : List ℕ → List ℕ → Type 0) (xs : List (List ℕ)) → Ascends xs → ((a b : List ℕ) → In xs a → In xs b → R a b → a ≡ b) → AllPairs (λ a b. R a b → ⊥) xs
pairs_apart R [] ascends same i j d less within = absurd (omega arith)
pairs_apart R (x ∷ xs) (below, ascends) same zero zero d less within = absurd (omega arith)
pairs_apart R (x ∷ xs) (below, ascends) same zero (suc j) d less within =
    all_in (λ b. R x b → ⊥) xs (λ b there meets. not_below_itself x (subst (λ (u : List ℕ). order x u ≡ Less) (sym (same x b (inl refl) (inr there) meets)) (below b there))) j d (omega arith)
pairs_apart R (x ∷ xs) (below, ascends) same (suc i) zero d less within = absurd (omega arith)
pairs_apart R (x ∷ xs) (below, ascends) same (suc i) (suc j) d less within =
    pairs_apart R xs ascends (λ a b one other. same a b (inr one) (inr other)) i j d (omega arith) (omega arith)

-- the same of texts that were put in order
pub apart_in_order : (R : List ℕ → List ℕ → Type 0) (more : List (List ℕ))
    → ((a b : List ℕ) → In (put_in_order [] more) a → In (put_in_order [] more) b → R a b → a ≡ b) → AllPairs (λ a b. R a b → ⊥) (put_in_order [] more)
apart_in_order R more = pairs_apart R (put_in_order [] more) (ascends_in_order [] more tt)

-- ---- what is known of each element

-- some element has it, or none has
pub some_or_none : {X : Type 0} (P : X → Type 0) → ((x : X) → P x ⊎ (P x → ⊥)) → (xs : List X) → ((x : X) × In xs x × P x) ⊎ ((x : X) → In xs x → P x → ⊥)
some_or_none P known [] = inr (λ x none holds. absurd none)
some_or_none {X} P known (z ∷ xs) = by (known z) (some_or_none P known xs)
  where
    by : P z ⊎ (P z → ⊥) → ((x : X) × In xs x × P x) ⊎ ((x : X) → In xs x → P x → ⊥) → ((x : X) × In (z ∷ xs) x × P x) ⊎ ((x : X) → In (z ∷ xs) x → P x → ⊥)
    by (inl here) rest = inl (z, inl refl, here)
    by (inr not_here) (inl (x, among, holds)) = inl (x, inr among, holds)
    by (inr not_here) (inr none) = inr (λ x among holds. elim among [
      | inl same ↦ not_here (subst P (sym same) holds)
      | inr later ↦ none x later holds
    ])

-- one of the elements that have it, of the greatest size
abbrev pub Greatest : {X : Type 0} → (X → Type 0) → (X → ℕ) → List X → Type 0
Greatest {X} P size xs = (x : X) × In xs x × P x × ((y : X) → In xs y → P y → size y ≤ size x)

-- such a one is there, or none has it
pub greatest : {X : Type 0} (P : X → Type 0) (size : X → ℕ) → ((x : X) → P x ⊎ (P x → ⊥)) → (xs : List X) → Greatest P size xs ⊎ ((x : X) → In xs x → P x → ⊥)
greatest P size known [] = inr (λ x none holds. absurd none)
greatest {X} P size known (z ∷ xs) = by (known z) (greatest P size known xs)
  where
    larger : P z → (x : X) → In xs x → P x → ((y : X) → In xs y → P y → size y ≤ size x) → (size x < size z) ⊎ (size z ≤ size x) → Greatest P size (z ∷ xs)
    larger here x among holds most (inr small) = (
      x,
      inr among,
      holds,
      λ y there has. elim there [
        | inl same ↦ subst (λ (u : X). size u ≤ size x) same small
        | inr later ↦ most y later has
      ],
    )
    larger here x among holds most (inl great) = (
      z,
      inl refl,
      here,
      λ y there has. elim there [
        | inl same ↦ subst (λ (u : X). size u ≤ size z) same (omega arith)
        | inr later ↦ (let least = most y later has in omega arith)
      ],
    )

    by : P z ⊎ (P z → ⊥) → Greatest P size xs ⊎ ((x : X) → In xs x → P x → ⊥) → Greatest P size (z ∷ xs) ⊎ ((x : X) → In (z ∷ xs) x → P x → ⊥)
    by (inl here) (inl (x, among, holds, most)) = inl (larger here x among holds most (cases_lt (size x) (size z)))
    by (inl here) (inr none) = inl (
      z,
      inl refl,
      here,
      λ y there has. elim there [
        | inl same ↦ subst (λ (u : X). size u ≤ size z) same (omega arith)
        | inr later ↦ absurd (none y later has)
      ],
    )
    by (inr not_here) (inl (x, among, holds, most)) = inl (
      x,
      inr among,
      holds,
      λ y there has. elim there [
        | inl same ↦ absurd (not_here (subst P (sym same) has))
        | inr later ↦ most y later has
      ],
    )
    by (inr not_here) (inr none) = inr (λ x among holds. elim among [
      | inl same ↦ not_here (subst P (sym same) holds)
      | inr later ↦ none x later holds
    ])
