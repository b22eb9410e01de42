-- Lists of different members (this project's own).
use Rattle.std.specs.Prelude.{ℕ, ◌≡◌, ◌<◌, List, length, slice_index_or}

-- no two places of the list hold the same
abbrev pub AreDifferent : {A : Type 0} → List A → Type 0
AreDifferent {A} members = (i j : ℕ) (d : A) → i < j → j < length members → slice_index_or members i d ≡ slice_index_or members j d → ⊥
