use Rattle.std.proofs.Common.{refl}
use Rattle.decision_graph.proofs.JoinedLemmas.{compared, differ_no, differ_same}
use Rattle.decision_graph.proofs.settled.settled_differ.Goals as goal

pub returns-then-eq-clause-settled : goal.returns-then-eq-clause-settled
returns-then-eq-clause-settled c = differ_no c.args.low c.args.high (compared c.args.low 0 c.no.result c.eq.result c.eq.ensures c.if-eq.true c.no.ensures)

pub returns-then-eq-2-clause-settled : goal.returns-then-eq-2-clause-settled
returns-then-eq-2-clause-settled c = differ_same c.args.low c.args.high c.no-then-eq-2.result c.no-then-eq-2.ensures (compared c.args.low c.args.high c.args.high c.eq-2.result c.eq-2.ensures c.if-eq-2.true refl)
