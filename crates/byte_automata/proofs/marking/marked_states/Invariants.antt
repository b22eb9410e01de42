use Rattle.std.proofs.Common.{[]}
use Rattle.byte_automata.specs.Splitting.{Adds}
use Rattle.byte_automata.proofs.Marks.{Below, IsWaitingAt}
use Rattle.byte_automata.proofs.marking.marked_states.Given as goal

abbrev pub invariant-loop-class : goal.invariant-loop-class
invariant-loop-class l = Adds (Below (IsWaitingAt l.parts.of.items l.parts.members l.sources l.waiting) l.class-index) [] l.marked
