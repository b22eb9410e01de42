use Rattle.std.proofs.Common.{◌≤◌, length, arith}
use Rattle.impact_replay.proofs.Lines.{replayed_all, replayed_few}
use Rattle.impact_replay.proofs.replaying.replayed.Goals as goal

pub overflow_add-number : goal.overflow_add-number
overflow_add-number c =
    let few : c.loop-rest.number ≤ length c.args.log.now =
    replayed_few c.args.revisions.now c.args.log.now c.loop-rest.number c.loop-rest.rest c.in-Some.text _ _ c.loop-rest.impact c.loop-rest.invariant c.in-Some.is c.first_line-first.ensures in
    omega arith

pub returns-clause-impact : goal.returns-clause-impact
returns-clause-impact c = replayed_all c.args.revisions.now c.args.log.now c.loop-rest.number c.loop-rest.rest c.loop-rest.impact c.loop-rest.invariant c.in_default.is
