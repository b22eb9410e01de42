use Rattle.std.proofs.Common.{◌≡◌, ◌++◌, drop, take, map}
use Rattle.byte_automata.specs.Automaton.{flipped}
use Rattle.byte_automata.proofs.flip.flip_all.Given as goal

abbrev pub invariant-loop-i : goal.invariant-loop-i
invariant-loop-i l = l.states.items ≡ map flipped (take l.i l.initial.states.items) ++ drop l.i l.initial.states.items
