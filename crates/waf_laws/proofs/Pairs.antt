-- Facts of each element of a list, and of each element and each later one.
use Rattle.std.proofs.Common.{zero, suc, List, [], ◌∷◌, ◌++◌, map, All, AllPairs, arith}
use Rattle.std.proofs.lemmas.List.Kept.{AllPairs-cons}

-- each element has the fact
abbrev pub Each : {X : Type 0} → (X → Type 0) → List X → Type 0
Each P [] = Unit {0}
Each P (x ∷ xs) = P x × Each P xs

pub each_joined : {X : Type 0} (P : X → Type 0) (xs ys : List X) → Each P xs → Each P ys → Each P (xs ++ ys)
each_joined P [] ys one other = other
each_joined P (x ∷ xs) ys one other = (one.0, each_joined P xs ys one.1 other)

pub each_weaker : {X : Type 0} (P Q : X → Type 0) → ((x : X) → P x → Q x) → (xs : List X) → Each P xs → Each Q xs
each_weaker P Q weaker [] each = tt
each_weaker P Q weaker (x ∷ xs) each = (weaker x each.0, each_weaker P Q weaker xs each.1)

pub all_from_each : {X : Type 0} (P : X → Type 0) (xs : List X) → Each P xs → All P xs
all_from_each P [] each k d within = absurd (omega arith)
all_from_each P (x ∷ xs) each zero d within = each.0
all_from_each P (x ∷ xs) each (suc k) d within = all_from_each P xs each.1 k d (omega arith)

pub each_from_all : {X : Type 0} (P : X → Type 0) (xs : List X) → All P xs → Each P xs
each_from_all P [] all = tt
each_from_all P (x ∷ xs) all = (all 0 x (omega arith), each_from_all P xs (λ k d within. all (suc k) d (omega arith)))

-- each element is related to each later one
abbrev pub Pairwise : {X : Type 0} → (X → X → Type 0) → List X → Type 0
Pairwise R [] = Unit {0}
Pairwise R (x ∷ xs) = Each (R x) xs × Pairwise R xs

pub pairs_from : {X : Type 0} (R : X → X → Type 0) (xs : List X) → Pairwise R xs → AllPairs R xs
pairs_from R [] pairs = λ i j d less within. absurd (omega arith)
pairs_from R (x ∷ xs) pairs = AllPairs-cons R x xs (all_from_each (R x) xs pairs.0) (pairs_from R xs pairs.1)

pub pairwise_joined : {X : Type 0} (R : X → X → Type 0) (xs ys : List X) → Pairwise R xs → Pairwise R ys → Each (λ x. Each (R x) ys) xs → Pairwise R (xs ++ ys)
pairwise_joined R [] ys one other across = other
pairwise_joined R (x ∷ xs) ys one other across = (each_joined (R x) xs ys one.0 across.0, pairwise_joined R xs ys one.1 other across.1)

-- what is made of the elements is related in pairs, and so are the elements
pub pairwise_from : {X Y : Type 0} (R : Y → Y → Type 0) (f : X → Y) (xs : List X) → AllPairs R (map f xs) → Pairwise (λ x y. R (f x) (f y)) xs
pairwise_from R f [] pairs = tt
pairwise_from {X} R f (x ∷ xs) pairs =
    (first xs (λ k d within. pairs 0 (suc k) d (omega arith) (omega arith)), pairwise_from R f xs (λ i j d less within. pairs (suc i) (suc j) d (omega arith) (omega arith)))
  where
    first : (ys : List X) → All (R (f x)) (map f ys) → Each (λ y. R (f x) (f y)) ys
    first [] all = tt
    first (y ∷ ys) all = (all 0 (f y) (omega arith), first ys (λ k d within. all (suc k) d (omega arith)))
