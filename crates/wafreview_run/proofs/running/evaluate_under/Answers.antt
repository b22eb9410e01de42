use Rattle.std.proofs.Common.{[], ◌∷◌, Some}
use Rattle.waf_base.specs.Counts.{Rose}
use Rattle.wafreview_run.specs.CommandLine.{evaluate}
use Rattle.wafreview_run.proofs.DueAnswers.{due_cause, ended_cause}
use Rattle.wafreview_run.proofs.running.evaluate_under.Goals as goal

pub returns-in-Ok : goal.returns-in-Ok
returns-in-Ok g c =
    let files = g.F.Files in
    let read = c.in-Ok.read in
    due_cause (files.tells c.args.files.now) (files.sure c.args.files.now) (Rose (files.faults c.args.files.now) (files.faults c.read_three.new.files))
    (Rose (files.long_reads c.args.files.now) (files.long_reads c.read_three.new.files))
    (evaluate c.args.bundle.now c.args.request.now (Some c.args.answers.now)) (read.first.items ∷ read.second.items ∷ read.third.items ∷ []) _ c.in-Ok.ensures.bytes c.evaluation_under.ensures

pub returns-in-Err : goal.returns-in-Err
returns-in-Err g c =
    let files = g.F.Files in
    ended_cause (files.tells c.args.files.now) (files.sure c.args.files.now) (Rose (files.faults c.args.files.now) (files.faults c.read_three.new.files))
    (Rose (files.long_reads c.args.files.now) (files.long_reads c.read_three.new.files))
    (evaluate c.args.bundle.now c.args.request.now (Some c.args.answers.now)) c.in-Err.ended _ c.answer_at.ensures c.in-Err.ensures.ended
