use Rattle.std.proofs.Common.{arith}
use Rattle.parting_build.proofs.revisions.review.Goals as goal
use Rattle.parting_build.proofs.revisions.review.Goals.{in-Some, in-None}

pub returns-clause-answer : goal.returns-clause-answer
returns-clause-answer c =
    elim c.match-branch-2.branch [
      | in-Some w ↦
          let found = c.in_ok-parting.ensures.found in
          let parts = rw w.in-Some.is at found in
          rw w.result-is (parts.0, λ other answers d e other_parts. rw parts.1 (omega arith))
      | in-None w ↦ rw w.result-is (c.in_ok-parting.ensures.none w.in-None.is)
    ]
