-- Functions of the signs of numbered variables (this project's own).
use Rattle.std.specs.Prelude.{ℕ, ◌≡◌, ◌≤◌, Bool, false, List, nat_lt, if◌then◌else◌, slice_index_or}

-- a sign for each variable
abbrev pub Signs : Type 0
Signs = ℕ → Bool

-- a function of the signs
abbrev pub Function : Type 0
Function = Signs → Bool

-- two functions are the same where they have one value under all signs
pub record Same (f g : Function) : Type 0 where
  pub at : (s : Signs) → f s ≡ g s

-- the signs of a list, where a variable past its end has the sign false
abbrev pub signs_of : List Bool → Signs
signs_of signs variable = slice_index_or signs variable false

-- two choices of signs agree from a variable on
abbrev pub AgreeFrom : ℕ → Signs → Signs → Type 0
AgreeFrom first s t = (variable : ℕ) → first ≤ variable → s variable ≡ t variable

-- the function looks at no variable below the first
pub record DependsFrom (first : ℕ) (f : Function) : Type 0 where
  pub at : (s t : Signs) → AgreeFrom first s t → f s ≡ f t

-- the variables below `count` have the signs that are given, and the others keep theirs
abbrev pub given : ℕ → Signs → Signs → Signs
given count signs s variable = if nat_lt variable count then signs variable else s variable

-- what the first function becomes when its first variables, none or more, are given signs
pub record Becomes (f g : Function) : Type 0 where
  pub count : ℕ
  pub signs : Signs
  pub same : Same (λ s. f (given count signs s)) g
