use Rattle.std.proofs.Common.{◌≡◌, length}
use Rattle.byte_automata.proofs.parts.note_largest.Given as goal

abbrev pub invariant-loop-i : goal.invariant-loop-i
invariant-loop-i l = length l.sizes ≡ length l.initial.sizes
