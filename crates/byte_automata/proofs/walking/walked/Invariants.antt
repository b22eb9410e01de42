use Rattle.std.proofs.Common.{length, ◌-◌}
use Rattle.byte_automata.proofs.Walks.{Walking}
use Rattle.byte_automata.proofs.walking.walked.Given as goal

abbrev pub invariant-places : goal.invariant-places
invariant-places g l =
    Walking (g.W.Walk.start l.walk) (g.W.Walk.after l.walk) (g.W.Walk.accepting l.walk) l.fn.meter.made l.meter.made l.fn.meter.limit l.meter.limit l.places l.states.items

abbrev pub decreases-places : goal.decreases-places
decreases-places g l = l.fn.meter.limit - length l.states.items
