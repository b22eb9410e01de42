-- What numbering one thing more does to a list of different things (this project's own).
use Rattle.std.specs.Prelude.{ℕ, ◌≡◌, ◌<◌, ◌⊎◌, List, [], ◌∷◌, ◌++◌, length, slice_index_or}

-- the item stands in the list at the place of that number
abbrev pub HasNumber : {A : Type 0} → List A → A → ℕ → Type 0
HasNumber {A} items item number = (number < length items) × ((d : A) → slice_index_or items number d ≡ item)

-- the item has the number after the call; it was there before and nothing changes, or it goes last
pub record Numbers {A : Type 0} (before : List A) (item : A) (number : ℕ) (after : List A) : Type 0 where
  pub place : HasNumber after item number
  pub kept : (after ≡ before) ⊎ ((after ≡ before ++ item ∷ []) × (number ≡ length before))
