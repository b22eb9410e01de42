-- Some element of a list has a fact just where a search for one finds it.
use Rattle.std.proofs.Common.{ℕ, ◌<◌, Bool, true, false, List, [], ◌∷◌, length, get_or, map, MatchBool, refl, arith, sym, ap, ◌∙◌, subst}
use Rattle.std.proofs.lemmas.Bool.{false≢true}
use Rattle.std.specs.List.{HoldsAt, AllWithin}
use Rattle.std.specs.Prelude.{◌↔◌, Any, IsTrue}
use Rattle.std.proofs.Math.ListN.{get_or-map}
use Rattle.std.proofs.lemmas.List.{get_or_default, length-map}

abbrev Found : {X : Type 0} → (X → Type 0) → List X → Type 0
Found P xs = (k : ℕ) × (k < length xs) × HoldsAt P xs k

some_found : {X : Type 0} (P : X → Type 0) (xs : List X) → Found P xs → Any P xs
some_found P [] found = absurd (omega (arith, found.1))
some_found P (x ∷ xs) found = (found.0, get_or (x ∷ xs) found.0 x, found.1, get_or_default (x ∷ xs) found.0 (get_or (x ∷ xs) found.0 x) x found.1, found.2 x)

pub decided : {X : Type 0} (r : Bool) (P : X → Type 0) (xs : List X) → MatchBool r (Found P xs) (AllWithin (λ x. P x → ⊥) xs 0 (length xs)) → IsTrue r ↔ Any P xs
decided true P xs found = (λ _. some_found P xs found, λ _. refl)
decided false P xs none = (λ e. absurd (false≢true e), λ some. absurd (none some.0 some.1 (omega arith) some.2 (subst P (sym some.3) some.4)))

-- an element of a changed list has the fact just where the element that was changed has it once changed
found_before : {X Y : Type 0} (f : X → Y) (P : Y → Type 0) (xs : List X) → Any P (map f xs) → Found (λ x. P (f x)) xs
found_before f P xs some =
    let within : some.0 < length xs = subst (λ (n : ℕ). some.0 < n) (length-map xs f) some.2 in
    (some.0, within, λ d. subst P (sym (sym (get_or-map f xs some.0 d) ∙ get_or_default (map f xs) some.0 (f d) some.1 some.2 ∙ some.3)) some.4)

pub some_mapped : {X Y : Type 0} (f : X → Y) (P : Y → Type 0) (xs : List X) → Any (λ x. P (f x)) xs ↔ Any P (map f xs)
some_mapped f P xs = (
  λ some. (some.0, f some.1, subst (λ (n : ℕ). some.0 < n) (sym (length-map xs f)) some.2, get_or-map f xs some.0 some.1 ∙ ap f some.3, some.4),
  λ some. some_found (λ x. P (f x)) xs (found_before f P xs some),
)

-- a search of a list that decides a fact of some element decides it of the list that was changed
pub decided_mapped : {X Y : Type 0} (r : Bool) (f : X → Y) (P : Y → Type 0) (xs : List X) → IsTrue r ↔ Any (λ x. P (f x)) xs → IsTrue r ↔ Any P (map f xs)
decided_mapped r f P xs same = let both = some_mapped f P xs in (λ e. both.0 (same.0 e), λ some. same.1 (both.1 some))
