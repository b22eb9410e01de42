-- What a node is (this project's own).
use Rattle.std.specs.Prelude.{ℕ, ◌≡◌, true, false, List}
use Rattle.decision_graph.specs.Nodes.{value}
use Rattle.decision_graph.specs.Reduced.{IsTest}
use Rattle.decision_graph.specs.Signs.{Same}
use Rattle.decision_graph.specs.declared.branch.Branch.{Branch}
use Rattle.decision_graph.specs.declared.node_view.NodeView.{NodeView}
use Rattle.decision_graph.specs.declared.node_view.NodeView.TheVariants.{Yes, No, Test}

-- the node is what the view says: a constant, or a test of the variable that goes on at the two nodes
abbrev pub IsViewed : List Branch → ℕ → NodeView → Type 0
IsViewed nodes a Yes = (a ≡ 1) × Same (value nodes a) (λ _. true)
IsViewed nodes a No = (a ≡ 0) × Same (value nodes a) (λ _. false)
IsViewed nodes a (Test variable hi lo) = IsTest nodes a (record { var = variable; hi = hi; lo = lo })
