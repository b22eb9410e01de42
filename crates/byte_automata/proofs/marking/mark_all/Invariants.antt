use Rattle.byte_automata.specs.Splitting.{Adds}
use Rattle.byte_automata.proofs.Marks.{Below, IsAt}
use Rattle.byte_automata.proofs.marking.mark_all.Given as goal

abbrev pub invariant-loop-state : goal.invariant-loop-state
invariant-loop-state l = Adds (Below (IsAt l.states) l.state-index) l.initial.marked l.marked
