-- Reduced graphs, in which each function has one node (this project's own).
use Rattle.std.specs.Prelude.{ℕ, ◌≡◌, ◌<◌, List, [], ◌∷◌, None}
use Rattle.decision_graph.specs.Nodes.{IsId, value, first_variable, id_of, chosen}
use Rattle.decision_graph.specs.Signs.{Same, DependsFrom}
use Rattle.decision_graph.specs.declared.branch.Branch.{Branch}

-- the node may follow the older ones: its children were made before it and differ, their variables are greater than
-- its own, and no older node is the same
pub record MayFollow (older : List Branch) (b : Branch) : Type 0 where
  pub hi : IsId older b.hi
  pub lo : IsId older b.lo
  pub apart : b.hi ≡ b.lo → ⊥
  pub above_hi : b.var < first_variable older b.hi
  pub above_lo : b.var < first_variable older b.lo
  pub is_new : id_of older b ≡ None

-- each node may follow those that were made before it
abbrev pub IsReduced : List Branch → Type 0
IsReduced [] = Unit {0}
IsReduced (b ∷ older) = MayFollow older b × IsReduced older

-- two numbers of nodes are equal exactly where their functions are the same
pub record IsCanonical (nodes : List Branch) : Type 0 where
  pub same_id : (a b : ℕ) → IsId nodes a → IsId nodes b → Same (value nodes a) (value nodes b) → a ≡ b

-- no node looks at a variable below the one that it tests first
pub record IsOrdered (nodes : List Branch) : Type 0 where
  pub depends : (a : ℕ) → IsId nodes a → DependsFrom (first_variable nodes a) (value nodes a)

-- the node of that number tests the variable of the branch and goes on at its nodes, which differ and were made
-- before it, and test greater variables
pub record IsTest (nodes : List Branch) (a : ℕ) (b : Branch) : Type 0 where
  pub hi : IsId nodes b.hi
  pub lo : IsId nodes b.lo
  pub hi_before : b.hi < a
  pub lo_before : b.lo < a
  pub apart : b.hi ≡ b.lo → ⊥
  pub above_hi : b.var < first_variable nodes b.hi
  pub above_lo : b.var < first_variable nodes b.lo
  pub first : first_variable nodes a ≡ b.var
  pub value : Same (value nodes a) (chosen b.var (value nodes b.hi) (value nodes b.lo))
