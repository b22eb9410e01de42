use Rattle.byte_automata.proofs.Redirects.{IsRedirecting}
use Rattle.byte_automata.proofs.redirected.redirected.Given as goal

abbrev pub invariant-states : goal.invariant-states
invariant-states l = IsRedirecting l.dfa l.names.items l.state l.states.items
