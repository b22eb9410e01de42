use Rattle.byte_automata.proofs.Sourced.{HaveSources}
use Rattle.byte_automata.proofs.sources.sources_of.Given as goal

abbrev pub invariant-states : goal.invariant-states
invariant-states l = HaveSources l.dfa l.state l.sources
