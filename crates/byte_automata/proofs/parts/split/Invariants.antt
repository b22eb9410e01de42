use Rattle.byte_automata.specs.Splitting.{AreParts}
use Rattle.byte_automata.proofs.Parting.{IsSplitBelow}
use Rattle.byte_automata.proofs.parts.split.Given as goal

abbrev pub invariant-loop-i : goal.invariant-loop-i
invariant-loop-i l = AreParts l.states l.count l.parts.of.items l.parts.members l.parts.sizes × IsSplitBelow l.initial.parts.of.items l.parts.of.items l.marked l.groups l.base l.i
