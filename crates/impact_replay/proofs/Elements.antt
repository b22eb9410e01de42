-- Elements of lists, and of those of which each is before all later ones.
use Rattle.std.proofs.Common.{◌≡◌, ◌⊎◌, inl, inr, zero, suc, List, [], ◌∷◌, refl, subst, arith}
use Rattle.std.specs.List.{AllPairs, Contains}

pub none_contained : {X : Type 0} (x : X) → Contains [] x → ⊥
none_contained x among = omega arith

pub first_contained : {X : Type 0} (x : X) (xs : List X) → Contains (x ∷ xs) x
first_contained x xs = (0, omega arith, refl)

pub later_contained : {X : Type 0} (x : X) (xs : List X) (y : X) → Contains xs y → Contains (x ∷ xs) y
later_contained x xs y among =
    let within = among.1 in
    (suc among.0, omega arith, among.2)

pub first_or_later : {X : Type 0} (x : X) (xs : List X) (y : X) → Contains (x ∷ xs) y → (x ≡ y) ⊎ Contains xs y
first_or_later x xs y (zero, within, is) = inl is
first_or_later x xs y (suc k, within, is) = inr (k, omega arith, is)

pub later_pairs : {X : Type 0} (R : X → X → Type 0) (x : X) (xs : List X) → AllPairs R (x ∷ xs) → AllPairs R xs
later_pairs R x xs all = λ i j d before within. all (suc i) (suc j) d (omega arith) (omega arith)

pub first_pairs : {X : Type 0} (R : X → X → Type 0) (x : X) (xs : List X) (y : X) → AllPairs R (x ∷ xs) → Contains xs y → R x y
first_pairs R x xs y all among =
    let within = among.1 in
    subst (R x) among.2 (all 0 (suc among.0) y (omega arith) (omega arith))
