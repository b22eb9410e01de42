use Rattle.std.proofs.Common.{ap, ◌∙◌}
use Rattle.decision_graph.specs.Nodes.{id_of}
use Rattle.decision_graph.specs.Reduced.{IsReduced}
use Rattle.decision_graph.specs.declared.branch.Branch.{Branch}
use Rattle.decision_graph.proofs.NodeLemmas.{found_in_table}
use Rattle.decision_graph.proofs.graph.Graph.find.Goals as goal

pub returns-clause-found : goal.returns-clause-found
returns-clause-found c =
    let b : Branch = record { var = c.args.var; hi = c.args.hi; lo = c.args.lo } in
    let reduced : IsReduced c.args.self.now = rw (← c.self.view_is) c.self.invariant.reduced in
    found_in_table c.args.self.now b c.copied.result reduced (c.copied.ensures ∙ c.get.ensures.value ∙ c.self.invariant.ids b ∙ ap (λ l. id_of l b) c.self.view_is)
