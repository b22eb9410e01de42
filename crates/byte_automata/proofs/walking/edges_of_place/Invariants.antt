use Rattle.std.proofs.Common.{◌-◌, get_or}
use Rattle.byte_automata.proofs.Walks.{Stepping}
use Rattle.byte_automata.proofs.walking.edges_of_place.Given as goal

abbrev pub invariant-runs : goal.invariant-runs
invariant-runs g l =
    Stepping (g.W.Walk.after l.walk) (get_or l.initial.places l.number (g.W.Walk.start l.walk)) l.initial.places l.places l.initial.meter.made l.meter.made l.initial.meter.limit l.meter.limit l.row.items l.low

abbrev pub decreases-runs : goal.decreases-runs
decreases-runs g l = 256 - l.low
