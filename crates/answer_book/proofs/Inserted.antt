-- A text at its place among others, seen as lists of bytes.
use Rattle.std.proofs.Common.{◌≡◌, ℕ, List, [], ◌∷◌, map, refl, ap, ◌∙◌}
use Rattle.std.specs.List.{AllByRecursion}
use Rattle.std.specs.List.Sorted.{IsStrictlySortedBy}
use Rattle.std.specs.BTreeSet.{insert_key}
use Rattle.std.specs.Ordering.{match_ordering}
use Rattle.std.specs.declared.cmp.Ordering.{Ordering}
use Rattle.std.specs.declared.cmp.Ordering.TheVariants.{Less, Equal, Greater}

-- what is inserted by the order of the views is inserted among the views
pub map_insert : {X Y : Type 0} (view : X → Y) (order : Y → Y → Ordering) (xs : List X) (k : X)
    → map view (insert_key (λ a b. order (view a) (view b)) xs k) ≡ insert_key order (map view xs) (view k)
map_insert view order [] k = refl
map_insert {X} view order (x ∷ xs) k = by (order (view k) (view x)) (map_insert view order xs k) where
  by : (o : Ordering) → map view (insert_key (λ a b. order (view a) (view b)) xs k) ≡ insert_key order (map view xs) (view k)
      → map view (match_ordering o (k ∷ x ∷ xs) (x ∷ xs) (x ∷ insert_key (λ a b. order (view a) (view b)) xs k))
      ≡ match_ordering o (view k ∷ view x ∷ map view xs) (view x ∷ map view xs) (view x ∷ insert_key order (map view xs) (view k))
  by Less rest = refl
  by Equal rest = refl
  by Greater rest = ap (λ l. view x ∷ l) rest

-- the same, as a set of texts sees it
pub inserted : {X : Type 0} (view : X → List ℕ) (order : List ℕ → List ℕ → Ordering) (keys new : List X) (k : X) (old : List (List ℕ)) (text : List ℕ)
    → new ≡ insert_key (λ a b. order (view a) (view b)) keys k → map view keys ≡ old → view k ≡ text → map view new ≡ insert_key order old text
inserted view order keys new k old text is seen same =
    ap (map view) is ∙ map_insert view order keys k ∙ ap (λ l. insert_key order l (view k)) seen ∙ ap (λ t. insert_key order old t) same

below_all : {X Y : Type 0} (view : X → Y) (order : Y → Y → Ordering) (k : X) (ks : List X) → AllByRecursion (λ y. order (view k) (view y) ≡ Less) ks
    → AllByRecursion (λ y. order (view k) y ≡ Less) (map view ks)
below_all view order k [] below = tt
below_all view order k (y ∷ ks) below = (below.0, below_all view order k ks below.1)

-- keys that are sorted by the order of their views have views that are sorted
pub sorted_views : {X Y : Type 0} (view : X → Y) (order : Y → Y → Ordering) (keys : List X) → IsStrictlySortedBy (λ a b. order (view a) (view b)) keys → IsStrictlySortedBy order (map view keys)
unfolding IsStrictlySortedBy
sorted_views view order [] sorted = tt
sorted_views view order (k ∷ ks) sorted = (below_all view order k ks sorted.0, sorted_views view order ks sorted.1)
