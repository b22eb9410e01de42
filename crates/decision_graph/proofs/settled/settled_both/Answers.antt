use Rattle.decision_graph.proofs.JoinedLemmas.{compared, both_yes, both_no, both_same}
use Rattle.std.proofs.Common.{refl}
use Rattle.decision_graph.proofs.settled.settled_both.Goals.{then-eq-2-via-then-eq-2, then-eq-2-via-else-eq-2+then-eq-3}
use Rattle.decision_graph.proofs.settled.settled_both.Goals as goal

pub returns-then-eq-clause-settled : goal.returns-then-eq-clause-settled
returns-then-eq-clause-settled c = both_yes c.args.low c.args.high (compared c.args.low 1 c.yes.result c.eq.result c.eq.ensures c.if-eq.true c.yes.ensures)

pub returns-then-eq-2-clause-settled : goal.returns-then-eq-2-clause-settled
returns-then-eq-2-clause-settled c =
    elim c.then-eq-2.branch [
      | then-eq-2-via-then-eq-2 w ↦ both_no c.args.low c.args.high (compared c.args.low 0 c.no.result c.eq-2.result c.eq-2.ensures w.if-eq-2.true c.no.ensures)
      | then-eq-2-via-else-eq-2+then-eq-3 w ↦ both_same c.args.low c.args.high (compared c.args.low c.args.high c.args.high w.eq-else-eq-2.result w.eq-else-eq-2.ensures w.if-eq-3.true refl)
    ]
