use Rattle.std.proofs.Common.{◌-◌, reverse, get_or, arith, ap, ◌∙◌}
use Rattle.decision_graph.specs.Nodes.{IsId}
use Rattle.decision_graph.proofs.NodeLemmas.{IsTest-index}
use Rattle.decision_graph.proofs.graph.Graph.branch.Goals as goal

pub returns-clause-test : goal.returns-clause-test
returns-clause-test c =
    let is_id : IsId (reverse c.self.inside.nodes.items) c.args.a = rw c.self.view_is c.requires in
    let at = c.index.ensures ∙ ap (λ k. get_or c.self.inside.nodes.items (k - 2) c.index.result.now) c.number-number.ensures in
    rw (← c.self.view_is) (IsTest-index c.self.inside.nodes.items c.args.a c.index.result.now c.self.invariant.reduced is_id (omega arith) at)
