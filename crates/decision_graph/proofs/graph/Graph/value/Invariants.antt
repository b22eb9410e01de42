use Rattle.std.proofs.Common.{◌≡◌}
use Rattle.decision_graph.specs.Nodes.{IsId, value}
use Rattle.decision_graph.specs.Signs.{signs_of}
use Rattle.decision_graph.proofs.graph.Graph.value.Given as goal

abbrev pub invariant-loop-branch : goal.invariant-loop-branch
invariant-loop-branch l = record { is_id : IsId l.self l.at; same : value l.self l.at (signs_of l.signs) ≡ value l.self l.fn.a (signs_of l.signs) }

abbrev pub decreases-loop-branch : goal.decreases-loop-branch
decreases-loop-branch l = l.at
