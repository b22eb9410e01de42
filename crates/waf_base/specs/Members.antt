-- How many different things are of a kind, where a sameness says which things are one (this project's own).
use Rattle.std.specs.Prelude.{ℕ, ◌<◌}

-- at least n different things are of the kind: those that are numbered from 0 to n - 1
pub record AtLeast {A : Type 0} (Same : A → A → Type 0) (n : ℕ) (IsKind : A → Type 0) : Type 0 where
  pub member : ℕ → A
  pub of_kind : (i : ℕ) → i < n → IsKind (member i)
  pub different : (i j : ℕ) → i < j → j < n → Same (member i) (member j) → ⊥

-- at most n different things are of the kind: each is the same as one of those that are numbered from 0 to n - 1
pub record AtMost {A : Type 0} (Same : A → A → Type 0) (n : ℕ) (IsKind : A → Type 0) : Type 0 where
  pub member : ℕ → A
  pub number : (thing : A) → IsKind thing → ℕ
  pub below : (thing : A) (is_kind : IsKind thing) → number thing is_kind < n
  pub same : (thing : A) (is_kind : IsKind thing) → Same (member (number thing is_kind)) thing

-- just n different things are of the kind
pub record Exactly {A : Type 0} (Same : A → A → Type 0) (n : ℕ) (IsKind : A → Type 0) : Type 0 where
  pub at_least : AtLeast Same n IsKind
  pub at_most : AtMost Same n IsKind
