-- How a graph grows in a call, and how its new nodes are counted (this project's own).
use Rattle.std.specs.Prelude.{ℕ, ◌+◌, ◌-◌, ◌≡◌, ◌≤◌, List, length}
use Rattle.waf_base.specs.Members.{AtLeast, Exactly}
use Rattle.waf_base.specs.declared.meter.Meter.{Meter}
use Rattle.decision_graph.specs.Nodes.{IsId, value, first_variable, HasNode}
use Rattle.decision_graph.specs.Reduced.{IsReduced, IsCanonical}
use Rattle.decision_graph.specs.Signs.{Function, Same}
use Rattle.decision_graph.specs.declared.branch.Branch.{Branch}

-- each node that was there is there with the function and the first variable that it had
pub record Keeps (old new : List Branch) : Type 0 where
  pub ids : length old ≤ length new
  pub functions : (a : ℕ) → IsId old a → Same (value new a) (value old a)
  pub variables : (a : ℕ) → IsId old a → first_variable new a ≡ first_variable old a

-- the kind, as far as no node of the graph has the function
pub record Wanting (nodes : List Branch) (IsKind : Function → Type 0) (f : Function) : Type 0 where
  pub of_kind : IsKind f
  pub lacking : HasNode nodes f → ⊥

-- no node of the old graph has the function, and one of the new graph has it
pub record GotNode (old new : List Branch) (f : Function) : Type 0 where
  pub has : HasNode new f
  pub lacked : HasNode old f → ⊥

-- What a call does to a graph and a meter, whatever it answers: every node keeps its number and its function; the
-- count rises by just the number of functions that got a node, each of which is of the kind; the limit stays.
pub record Grows (IsKind : Function → Type 0) (old new : List Branch) (before after : Meter) : Type 0 where
  pub keeps : Keeps old new
  pub reduced : IsReduced new
  pub canonical : IsCanonical new
  pub limit : after.limit ≡ before.limit
  pub counted : after.made + length old ≡ before.made + length new
  pub of_kind : (a : ℕ) → length old + 2 ≤ a → IsId new a → IsKind (value new a)
  pub got : Exactly Same (after.made - before.made) (GotNode old new)
  pub wanted : AtLeast Same (after.made - before.made) (Wanting old IsKind)

-- The call may have stopped for want of nodes: the meter is full, a function of the kind has no node, and more
-- different functions of the kind had no node at entry than nodes were left.
pub record StopsFull (IsKind : Function → Type 0) (old new : List Branch) (before after : Meter) : Type 0 where
  pub full : after.made ≡ after.limit
  pub function : Function
  pub wanting : Wanting new IsKind function
  pub number : AtLeast Same (before.limit - before.made + 1) (Wanting old IsKind)

-- one node is counted where no node has the function, and none where one has it
pub record MakesIfLacking (old : List Branch) (f : Function) (before after : Meter) : Type 0 where
  pub lacking : (HasNode old f → ⊥) → after.made ≡ before.made + 1
  pub there : HasNode old f → after.made ≡ before.made
