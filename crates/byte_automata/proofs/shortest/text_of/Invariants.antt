use Rattle.std.proofs.Common.{◌≡◌, ◌≤◌, ◌++◌, length, reverse}
use Rattle.byte_automata.specs.Words.{text_at}
use Rattle.byte_automata.proofs.shortest.text_of.Given as goal

abbrev pub invariant-back : goal.invariant-back
invariant-back l = (l.place ≤ length l.arrivals) × (text_at l.arrivals l.place ++ reverse l.text.items ≡ text_at l.arrivals l.initial.place)

abbrev pub decreases-back : goal.decreases-back
decreases-back l = l.place
