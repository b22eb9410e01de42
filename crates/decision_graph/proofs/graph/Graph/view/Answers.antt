use Rattle.std.proofs.Common.{◌≡◌, arith}
use Rattle.decision_graph.proofs.NodeLemmas.{value-yes, value-no, ordered}
use Rattle.decision_graph.proofs.CanonicalLemmas.{canonical}
use Rattle.decision_graph.proofs.graph.Graph.view.Goals as goal

pub returns-in_Some-branch-clause-canonical : goal.returns-in_Some-branch-clause-canonical
returns-in_Some-branch-clause-canonical c = canonical c.args.self.now c.in_Some-branch.ensures.reduced

pub returns-in_Some-branch-clause-ordered : goal.returns-in_Some-branch-clause-ordered
returns-in_Some-branch-clause-ordered c = ordered c.args.self.now c.in_Some-branch.ensures.reduced

pub returns-in_None-branch-clause-view : goal.returns-in_None-branch-clause-view
returns-in_None-branch-clause-view c = let e : c.args.a ≡ 1 = omega arith in (e, value-yes c.args.self.now c.args.a e)

pub returns-in_None-branch-clause-canonical : goal.returns-in_None-branch-clause-canonical
returns-in_None-branch-clause-canonical c = canonical c.args.self.now c.in_None-branch.ensures.reduced

pub returns-in_None-branch-clause-ordered : goal.returns-in_None-branch-clause-ordered
returns-in_None-branch-clause-ordered c = ordered c.args.self.now c.in_None-branch.ensures.reduced

pub returns-in_None-2-branch-clause-view : goal.returns-in_None-2-branch-clause-view
returns-in_None-2-branch-clause-view c = let e : c.args.a ≡ 0 = omega (arith, c.in_None-2-branch.ensures.constant) in (e, value-no c.args.self.now c.args.a e)

pub returns-in_None-2-branch-clause-canonical : goal.returns-in_None-2-branch-clause-canonical
returns-in_None-2-branch-clause-canonical c = canonical c.args.self.now c.in_None-2-branch.ensures.reduced

pub returns-in_None-2-branch-clause-ordered : goal.returns-in_None-2-branch-clause-ordered
returns-in_None-2-branch-clause-ordered c = ordered c.args.self.now c.in_None-2-branch.ensures.reduced
