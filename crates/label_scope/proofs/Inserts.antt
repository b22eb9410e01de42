-- A text at its place among others, seen as lists of bytes.
use Rattle.std.proofs.Common.{◌≡◌, ℕ, List, [], ◌∷◌, map, refl, ap, ◌∙◌, arith}
use Rattle.std.specs.BTreeSet.{insert_key}
use Rattle.std.specs.Cmp.Lexicographic.{slice_cmp}
use Rattle.std.specs.List.{AllByRecursion}
use Rattle.std.proofs.lemmas.List.Elements.{All-nil, All-cons}
use Rattle.std.proofs.lemmas.List.Kept.{AllPairs-cons}
use Rattle.std.specs.List.Sorted.{IsStrictlySortedBy}
use Rattle.std.specs.Ordering.{is_lt, match_ordering, nat_cmp}
use Rattle.std.specs.Prelude.{All, AllPairs, IsTrue}
use Rattle.std.specs.declared.cmp.Ordering.{Ordering}
use Rattle.std.specs.declared.cmp.Ordering.TheVariants.{Less, Equal, Greater}

by_order : {X Y : Type 0} (view : X → Y) (r : Y → Y → Ordering) (k x : X) (xs : List X) (o : Ordering)
    → map view (insert_key (λ a b. r (view a) (view b)) xs k) ≡ insert_key r (map view xs) (view k)
    → map view (match_ordering o (k ∷ x ∷ xs) (x ∷ xs) (x ∷ insert_key (λ a b. r (view a) (view b)) xs k))
    ≡ match_ordering o (view k ∷ view x ∷ map view xs) (view x ∷ map view xs) (view x ∷ insert_key r (map view xs) (view k))
by_order view r k x xs Less e = refl
by_order view r k x xs Equal e = refl
by_order view r k x xs Greater e = ap (λ l. view x ∷ l) e

-- what is inserted by the order of the views is inserted among the views
pub map_insert : {X Y : Type 0} (view : X → Y) (r : Y → Y → Ordering) (xs : List X) (k : X)
    → map view (insert_key (λ a b. r (view a) (view b)) xs k) ≡ insert_key r (map view xs) (view k)
map_insert view r [] k = refl
map_insert view r (x ∷ xs) k = by_order view r k x xs (r (view k) (view x)) (map_insert view r xs k)

-- the same, where the views are other lists
pub inserted : {X : Type 0} (view : X → List ℕ) (keys new : List X) (k : X) (old : List (List ℕ)) (label : List ℕ)
    → new ≡ insert_key (λ a b. slice_cmp nat_cmp (view a) (view b)) keys k → map view keys ≡ old → view k ≡ label
    → map view new ≡ insert_key (slice_cmp nat_cmp) old label
inserted view keys new k old label is seen same = ap (map view) is ∙ map_insert view (slice_cmp nat_cmp) keys k
    ∙ ap (λ l. insert_key (slice_cmp nat_cmp) l (view k)) seen ∙ ap (λ t. insert_key (slice_cmp nat_cmp) old t) same

below_all : {X : Type 0} (view : X → List ℕ) (k : X) (ks : List X) → AllByRecursion (λ y. slice_cmp nat_cmp (view k) (view y) ≡ Less) ks
    → All (λ q. IsTrue (is_lt (slice_cmp nat_cmp (view k) q))) (map view ks)
below_all view k [] below = All-nil (λ q. IsTrue (is_lt (slice_cmp nat_cmp (view k) q)))
below_all view k (y ∷ ks) below = All-cons (λ q. IsTrue (is_lt (slice_cmp nat_cmp (view k) q))) (view y) (map view ks) (ap is_lt below.0) (below_all view k ks below.1)

none_ascend : AllPairs {X = List ℕ} (λ a b. IsTrue (is_lt (slice_cmp nat_cmp a b))) []
none_ascend = grind arith

-- keys that are sorted by the order of their views have views that ascend
pub ascending : {X : Type 0} (view : X → List ℕ) (keys : List X) → IsStrictlySortedBy (λ a b. slice_cmp nat_cmp (view a) (view b)) keys
    → AllPairs (λ a b. IsTrue (is_lt (slice_cmp nat_cmp a b))) (map view keys)
unfolding IsStrictlySortedBy
ascending view [] sorted = none_ascend
ascending view (k ∷ ks) sorted = AllPairs-cons (λ a b. IsTrue (is_lt (slice_cmp nat_cmp a b))) (view k) (map view ks) (below_all view k ks sorted.0) (ascending view ks sorted.1)
