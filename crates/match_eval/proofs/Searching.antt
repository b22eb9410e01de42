-- A search through the elements of a list, one after another, and searches through lists that are made of others.
use Rattle.std.proofs.Common.{◌≡◌, ◌↔◌, inl, inr, ℕ, zero, suc, ◌+◌, ◌<◌, Bool, List, [], ◌∷◌, map, length, get_or, IsTrue, refl, sym, subst, arith}
use Rattle.std.proofs.lemmas.Bool.{cases_lt}
use Rattle.std.proofs.lemmas.Grind.{common_steps}
use Rattle.std.specs.Prelude.{Any}

-- no element before here has it, and this one doesn't
pub none_more : {X : Type 0} (P : X → Type 0) (xs : List X) (i : ℕ) (x : X) → i < length xs → x ≡ get_or xs i x
    → ((k : ℕ) (d : X) → k < i → P (get_or xs k d) → ⊥) → (P x → ⊥) → (k : ℕ) (d : X) → k < i + 1 → P (get_or xs k d) → ⊥
none_more {X} P xs i x inside is before here k d below holds = elim (cases_lt k i) [
  | inl under ↦ before k d under holds
  | inr above ↦
      let same : k ≡ i = omega arith in
      let at : get_or xs i d ≡ x = grind (arith, common_steps, is, inside) in
      here (subst P at (subst (λ (n : ℕ). P (get_or xs n d)) same holds))
]

-- no element has it
pub none_anywhere : {X : Type 0} (P : X → Type 0) (xs : List X) (n : ℕ) → length xs ≡ n → ((k : ℕ) (d : X) → k < n → P (get_or xs k d) → ⊥) → Any P xs → ⊥
none_anywhere P xs n all none (k, x, inside, is, holds) = none k x (omega (arith, inside, all)) (subst P (sym is) holds)

-- an element of the images is the image of an element
pub of_image : {X Y : Type 0} (f : X → Y) (P : Y → Type 0) (xs : List X) → Any P (map f xs) → Any (λ x. P (f x)) xs
of_image f P [] (k, y, inside, is, holds) = absurd (omega (arith, inside))
of_image f P (x ∷ xs) (zero, y, inside, is, holds) = (0, x, omega arith, refl, subst P (sym is) holds)
of_image f P (x ∷ xs) (suc k, y, inside, is, holds) =
    let rest = of_image f P xs (k, y, omega (arith, inside), is, holds) in
    (suc rest.0, rest.1, omega (arith, rest.2), rest.3, rest.4)

pub image_of : {X Y : Type 0} (f : X → Y) (P : Y → Type 0) (xs : List X) → Any (λ x. P (f x)) xs → Any P (map f xs)
image_of f P [] (k, x, inside, is, holds) = absurd (omega (arith, inside))
image_of f P (y ∷ xs) (zero, x, inside, is, holds) = (0, f y, omega arith, refl, subst (λ z. P (f z)) (sym is) holds)
image_of f P (y ∷ xs) (suc k, x, inside, is, holds) =
    let rest = image_of f P xs (k, x, omega (arith, inside), is, holds) in
    (suc rest.0, rest.1, omega (arith, rest.2), rest.3, rest.4)

-- what tells of the images tells of the elements
pub tells_of_images : {X Y : Type 0} (f : X → Y) (P : Y → Type 0) (xs : List X) (ys : List Y) (r : Bool) → ys ≡ map f xs → IsTrue r ↔ Any P ys
    → IsTrue r ↔ Any (λ x. P (f x)) xs
tells_of_images f P xs ys r is tells = (
  λ h. of_image f P xs (subst (Any P) is (tells.0 h)),
  λ h. tells.1 (subst (Any P) (sym is) (image_of f P xs h)),
)

-- one of some and one of others, the other way round
pub swapped : {X Y : Type 0} (R : X → Y → Type 0) (xs : List X) (ys : List Y) → Any (λ x. Any (R x) ys) xs → Any (λ y. Any (λ x. R x y) xs) ys
swapped R xs ys (k, x, inside, is, (j, y, within, at, holds)) = (j, y, within, at, (k, x, inside, is, holds))
