use Rattle.std.proofs.Common.{length}
use Rattle.pattern_read.specs.Machine.{first}
use Rattle.pattern_read.proofs.Going.{Going}
use Rattle.pattern_read.proofs.read.state_of.Given as goal

abbrev pub invariant-loop-rest : goal.invariant-loop-rest
invariant-loop-rest l = Going l.fold l.fn.text first l.rest l.state

abbrev pub decreases-loop-rest : goal.decreases-loop-rest
decreases-loop-rest l = length l.rest
