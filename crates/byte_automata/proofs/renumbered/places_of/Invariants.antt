use Rattle.byte_automata.specs.Places.{IsPlaced}
use Rattle.byte_automata.proofs.renumbered.places_of.Given as goal

abbrev pub invariant-loop-i : goal.invariant-loop-i
invariant-loop-i l = IsPlaced l.order l.i l.count l.table.items
