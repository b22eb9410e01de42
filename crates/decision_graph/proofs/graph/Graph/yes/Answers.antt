use Rattle.std.proofs.Common.{arith}
use Rattle.decision_graph.proofs.NodeLemmas.{value-yes, first_variable-constant}
use Rattle.decision_graph.proofs.graph.Graph.yes.Goals as goal

pub returns-clause-value : goal.returns-clause-value
returns-clause-value c = record { is_id = omega (arith, c.yes.ensures); same = value-yes c.args.self.now c.yes.result c.yes.ensures }

pub returns-clause-variable : goal.returns-clause-variable
returns-clause-variable c = first_variable-constant c.args.self.now c.yes.result (omega (arith, c.yes.ensures))
