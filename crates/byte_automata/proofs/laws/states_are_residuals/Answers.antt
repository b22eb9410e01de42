use Rattle.byte_automata.proofs.Residuals.{residual-ends, residuals-exact}
use Rattle.byte_automata.proofs.laws.states_are_residuals.Goals as goal

pub returns-clause-ends : goal.returns-clause-ends
returns-clause-ends c = residual-ends c.args.dfa.now c.requires

pub returns-clause-count : goal.returns-clause-count
returns-clause-count c = residuals-exact c.args.dfa.now c.requires
