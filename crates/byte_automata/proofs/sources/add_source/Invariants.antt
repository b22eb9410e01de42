use Rattle.byte_automata.specs.Automaton.{state_at}
use Rattle.byte_automata.specs.Sources.{AddsSource}
use Rattle.byte_automata.proofs.sources.add_source.Given as goal

abbrev pub invariant-loop-edge : goal.invariant-loop-edge
invariant-loop-edge l = AddsSource (state_at l.dfa l.state).edges l.edge-index l.state l.initial.sources l.sources
