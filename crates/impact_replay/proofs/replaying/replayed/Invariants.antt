use Rattle.std.proofs.Common.{length}
use Rattle.impact_replay.specs.Lines.{lines_left}
use Rattle.impact_replay.proofs.Lines.{HasReplayed}
use Rattle.waf_model.specs.Pieces.{cut}
use Rattle.impact_replay.proofs.replaying.replayed.Given as goal

-- the lines up to the number were replayed, and the others are left
abbrev pub invariant-loop-rest : goal.invariant-loop-rest
invariant-loop-rest l = HasReplayed l.revisions (cut 10 l.log) l.number (lines_left l.rest) l.impact

-- the lines that are left
abbrev pub decreases-loop-rest : goal.decreases-loop-rest
decreases-loop-rest l = length (lines_left l.rest)
