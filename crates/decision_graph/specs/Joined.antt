-- The operations on functions, and the tables of those that are finished (this project's own).
use Rattle.std.specs.Prelude.{ℕ, ◌≡◌, ◌&&◌, ◌||◌, not, List, Option, Some, if◌then◌else◌}
use Rattle.decision_graph.specs.Nodes.{IsId, value, IsNodeOf}
use Rattle.decision_graph.specs.Signs.{Function}
use Rattle.decision_graph.specs.declared.branch.Branch.{Branch}
use Rattle.decision_graph.specs.declared.operands.Operands.{Operands}
use Rattle.decision_graph.specs.declared.operation.Operation.{Operation}
use Rattle.decision_graph.specs.declared.operation.Operation.TheVariants.{Both, Either, Differ}

-- both functions are true
abbrev pub conjunction : Function → Function → Function
conjunction f g signs = f signs && g signs

-- one function or both are true
abbrev pub disjunction : Function → Function → Function
disjunction f g signs = f signs || g signs

-- the functions differ
abbrev pub difference : Function → Function → Function
difference f g signs = if f signs then not (g signs) else g signs

-- the function is false
abbrev pub negation : Function → Function
negation f signs = not (f signs)

-- the two values joined by the operation
abbrev pub joined : Operation → Function → Function → Function
joined Both f g = conjunction f g
joined Either f g = disjunction f g
joined Differ f g = difference f g

-- the conjunction of two nodes
abbrev pub both_of : List Branch → ℕ → ℕ → Function
both_of nodes a b = conjunction (value nodes a) (value nodes b)

-- the disjunction of two nodes
abbrev pub either_of : List Branch → ℕ → ℕ → Function
either_of nodes a b = disjunction (value nodes a) (value nodes b)

-- the negation of a node
abbrev pub negation_of : List Branch → ℕ → Function
negation_of nodes a = negation (value nodes a)

-- two nodes joined by the operation
abbrev pub joined_of : Operation → List Branch → ℕ → ℕ → Function
joined_of operation nodes a b = joined operation (value nodes a) (value nodes b)

-- in every graph the operation on the two nodes gives that node
pub record Settles (operation : Operation) (a b id : ℕ) : Type 0 where
  pub at : (nodes : List Branch) → IsId nodes a → IsId nodes b → IsNodeOf nodes (joined operation (value nodes a) (value nodes b)) id

-- the result of the operation on two nodes is right
pub record IsResult (operation : Operation) (nodes : List Branch) (operands : Operands) (id : ℕ) : Type 0 where
  pub low : IsId nodes operands.low
  pub high : IsId nodes operands.high
  pub result : IsNodeOf nodes (joined operation (value nodes operands.low) (value nodes operands.high)) id

-- each result that a table gives is right
pub record AreResults (operation : Operation) (nodes : List Branch) (table : Operands → Option ℕ) : Type 0 where
  pub at : (operands : Operands) (id : ℕ) → table operands ≡ Some id → IsResult operation nodes operands id
