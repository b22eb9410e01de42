use Rattle.std.proofs.Common.{◌+◌}
use Rattle.decision_graph.proofs.graph.Graph.+apply.Given as goal

abbrev pub decreases-apply : goal.decreases-apply
decreases-apply l = l.a + l.b
