use Rattle.std.proofs.Common.{◌<◌, IfNone, subst}
use Rattle.decision_graph.proofs.StepLemmas.{least_of_test, least_of_other_test}
use Rattle.decision_graph.proofs.graph.Graph.common_variable.Goals as goal

pub returns-in_Some-None-x : goal.returns-in_Some-None-x
returns-in_Some-None-x c = least_of_test c.args.self.now c.args.a c.args.b c.in_Some-None-x.x c.branch-x.ensures.reduced c.in_Some-None-x.ensures.test c.in_Some-None-x.ensures'.constant

pub returns-in_None-Some-x : goal.returns-in_None-Some-x
returns-in_None-Some-x c =
    let constant : c.args.a < 2 = subst (λ r. IfNone r (c.args.a < 2)) c.in_None-Some-x.is-0 c.branch-x.ensures.constant in
    least_of_other_test c.args.self.now c.args.a c.args.b c.in_None-Some-x.y c.branch-x.ensures.reduced c.in_None-Some-x.ensures.test constant
