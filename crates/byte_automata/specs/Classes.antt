-- Classes of states, and the rows of edges that are seen through them (this project's own).
use Rattle.std.specs.Prelude.{ℕ, ◌≡◌, ◌+◌, ◌<◌, List, [], ◌∷◌, length, slice_index}
use Rattle.std.specs.List.{All}
use Rattle.byte_automata.specs.declared.edge.Edge.{Edge}
use Rattle.byte_automata.specs.declared.row_step.RowStep.{RowStep}
use Rattle.byte_automata.specs.Automaton.{Automaton, state_at, accepting}
use Rattle.byte_automata.specs.Least.{SameResidual}
use Rattle.byte_automata.specs.Numbers.{HasNumber}
use Rattle.byte_automata.specs.Row.{renamed, joined}

-- the edges of a state with classes in place of states, where neighbours of one class are joined
abbrev pub class_row : Automaton → List ℕ → ℕ → List Edge
class_row automaton classes state = joined (renamed (λ other. slice_index classes other) (state_at automaton state).edges)

-- The steps, each from the number of what it goes on from, spell the class and then the edges, the last of them first. A
-- number below `base` is that of a class, and `base` more than a step's is the step's.
abbrev pub Spells : ℕ → List RowStep → ℕ → List Edge → ℕ → Type 0
Spells base steps class [] id = (class < base) × (id ≡ class)
Spells base steps class (edge ∷ edges) id = (from : ℕ) × (number : ℕ) × (id ≡ base + number) × HasNumber steps (record { from = from; last = edge.last; to = edge.to }) number × Spells base steps class edges from

-- the numbers below the count name the classes of the states
pub record AreClasses (automaton : Automaton) (classes : List ℕ) (count : ℕ) : Type 0 where
  pub lengths : length classes ≡ length automaton.states
  pub below : All (λ class. class < count) classes

-- states of one residual are of one class, and states of one class accept alike
pub record AreCoarse (automaton : Automaton) (classes : List ℕ) (count : ℕ) : Type 0 where
  pub named : AreClasses automaton classes count
  pub one_class : (one other : ℕ) → one < length classes → other < length classes → SameResidual automaton one other → slice_index classes one ≡ slice_index classes other
  pub accept : (one other : ℕ) → one < length classes → other < length classes → slice_index classes one ≡ slice_index classes other → accepting automaton one ≡ accepting automaton other
