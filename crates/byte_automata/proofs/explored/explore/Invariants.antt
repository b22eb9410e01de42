use Rattle.std.proofs.Common.{length, ◌≤◌, ◌-◌}
use Rattle.byte_automata.specs.FirstReach.{IsExplored}
use Rattle.byte_automata.proofs.explored.explore.Given as goal

abbrev pub invariant-places : goal.invariant-places
invariant-places l = IsExplored l.dfa l.order l.arrivals.items l.place 0 × (l.place ≤ length l.order)

abbrev pub decreases-places : goal.decreases-places
decreases-places l = length l.dfa.states - l.place
