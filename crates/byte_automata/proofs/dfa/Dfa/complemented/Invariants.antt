use Rattle.std.proofs.Common.{◌≡◌, take, map}
use Rattle.byte_automata.specs.Automaton.{flipped}
use Rattle.byte_automata.proofs.dfa.Dfa.complemented.Given as goal

abbrev pub invariant-states : goal.invariant-states
invariant-states l = l.states.items ≡ map flipped (take l.state l.self.states)
