use Rattle.std.proofs.Common.{◌<◌, arith, ap, ◌∙◌, sym, nat_eq}
use Rattle.decision_graph.specs.Signs.{signs_of}
use Rattle.decision_graph.proofs.NodeLemmas.{value-constant}
use Rattle.decision_graph.proofs.graph.Graph.value.Goals as goal

pub returns : goal.returns
returns c =
    let lt : c.loop-branch.at < 2 = omega (arith, c.in_default-branch.ensures.constant) in
    let constant = value-constant c.args.self.now c.loop-branch.at lt (signs_of c.args.signs.now) in
    let same = c.loop-branch.invariant.same in
    let h = c.eq.ensures in
    let k = c.yes.ensures in
    h ∙ ap (nat_eq c.loop-branch.at) k ∙ sym constant ∙ same
