use Rattle.std.proofs.Common.{arith}
use Rattle.decision_graph.proofs.NodeLemmas.{value-no, first_variable-constant}
use Rattle.decision_graph.proofs.graph.Graph.no.Goals as goal

pub returns-clause-value : goal.returns-clause-value
returns-clause-value c = record { is_id = omega (arith, c.no.ensures); same = value-no c.args.self.now c.no.result c.no.ensures }

pub returns-clause-variable : goal.returns-clause-variable
returns-clause-variable c = first_variable-constant c.args.self.now c.no.result (omega (arith, c.no.ensures))
