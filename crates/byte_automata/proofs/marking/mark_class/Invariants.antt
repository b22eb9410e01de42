use Rattle.byte_automata.specs.Splitting.{Adds}
use Rattle.byte_automata.proofs.Marks.{Below, IsSourceAt}
use Rattle.byte_automata.proofs.marking.mark_class.Given as goal

abbrev pub invariant-loop-state : goal.invariant-loop-state
invariant-loop-state l = Adds (Below (IsSourceAt l.parts.of.items l.parts.members l.sources l.class) l.state-index) l.initial.marked l.marked
