-- A node by a variable's sign (this project's own).
use Rattle.std.specs.Prelude.{ℕ, ◌≡◌, ◌<◌, ◌≤◌, List}
use Rattle.decision_graph.specs.Nodes.{IsId, value, first_variable, chosen}
use Rattle.decision_graph.specs.Signs.{Same}
use Rattle.decision_graph.specs.declared.branch.Branch.{Branch}

-- the node goes on at the first where the variable's sign is true, and at the second where it is false; both test
-- greater variables, and they were made before the node where it tests the variable
pub record IsSplit (nodes : List Branch) (variable a on_true on_false : ℕ) : Type 0 where
  pub hi : IsId nodes on_true
  pub lo : IsId nodes on_false
  pub hi_most : on_true ≤ a
  pub lo_most : on_false ≤ a
  pub hi_before : first_variable nodes a ≡ variable → on_true < a
  pub lo_before : first_variable nodes a ≡ variable → on_false < a
  pub above_hi : variable < first_variable nodes on_true
  pub above_lo : variable < first_variable nodes on_false
  pub same : Same (value nodes a) (chosen variable (value nodes on_true) (value nodes on_false))
