use Rattle.byte_automata.proofs.Parting.{Spares}
use Rattle.byte_automata.proofs.parts.waiting_of.Given as goal

abbrev pub invariant-loop-i : goal.invariant-loop-i
invariant-loop-i l = Spares l.kinds l.base l.sizes l.i l.waiting.items
