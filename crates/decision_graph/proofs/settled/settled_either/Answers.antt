use Rattle.decision_graph.proofs.JoinedLemmas.{compared, either_no, either_yes, either_same}
use Rattle.std.proofs.Common.{refl}
use Rattle.decision_graph.proofs.settled.settled_either.Goals.{then-eq-2-via-then-eq-2, then-eq-2-via-else-eq-2+then-eq-3}
use Rattle.decision_graph.proofs.settled.settled_either.Goals as goal

pub returns-then-eq-clause-settled : goal.returns-then-eq-clause-settled
returns-then-eq-clause-settled c = either_no c.args.low c.args.high (compared c.args.low 0 c.no.result c.eq.result c.eq.ensures c.if-eq.true c.no.ensures)

pub returns-then-eq-2-clause-settled : goal.returns-then-eq-2-clause-settled
returns-then-eq-2-clause-settled c =
    elim c.then-eq-2.branch [
      | then-eq-2-via-then-eq-2 w ↦ either_yes c.args.low c.args.high (compared c.args.low 1 c.yes.result c.eq-2.result c.eq-2.ensures w.if-eq-2.true c.yes.ensures)
      | then-eq-2-via-else-eq-2+then-eq-3 w ↦ either_same c.args.low c.args.high (compared c.args.low c.args.high c.args.high w.eq-else-eq-2.result w.eq-else-eq-2.ensures w.if-eq-3.true refl)
    ]
