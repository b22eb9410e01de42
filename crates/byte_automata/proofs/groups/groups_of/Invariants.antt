use Rattle.byte_automata.proofs.Grouping.{IsGrouping}
use Rattle.byte_automata.proofs.groups.groups_of.Given as goal

abbrev pub invariant-marked : goal.invariant-marked
invariant-marked l = IsGrouping l.dfa l.classes l.marked l.base l.steps l.kinds l.of.items l.i
