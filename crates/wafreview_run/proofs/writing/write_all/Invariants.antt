use Rattle.std.proofs.Common.{◌≡◌, length}
use Rattle.wafreview_run.specs.Fronts.{TookBefore}
use Rattle.wafreview_run.proofs.writing.write_all.Given as goal

-- what stands before the rest was taken, and no write failed
abbrev pub invariant-loop-rest : goal.invariant-loop-rest
invariant-loop-rest g l = TookBefore (g.O.Sink.taken l.initial.out) (g.O.Sink.taken l.out) l.text l.rest × (g.O.Sink.faults l.out ≡ g.O.Sink.faults l.initial.out)

abbrev pub decreases-loop-rest : goal.decreases-loop-rest
decreases-loop-rest g l = length l.rest
