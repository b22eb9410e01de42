use Rattle.byte_automata.proofs.Renumbers.{IsRenumbering}
use Rattle.byte_automata.proofs.renumbered.renumbered.Given as goal

abbrev pub invariant-order : goal.invariant-order
invariant-order l = IsRenumbering l.dfa l.order l.places.items l.i l.states.items
