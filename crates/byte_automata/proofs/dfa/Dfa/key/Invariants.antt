use Rattle.std.proofs.Common.{◌≡◌, ◌∷◌, take}
use Rattle.std.specs.List.{flat_map}
use Rattle.byte_automata.specs.Key.{state_numbers}
use Rattle.byte_automata.proofs.dfa.Dfa.key.Given as goal

abbrev pub invariant-states : goal.invariant-states
invariant-states l = l.key ≡ l.self.start ∷ flat_map state_numbers (take l.state l.self.states)
