use Rattle.std.proofs.Common.{[], ◌∷◌}
use Rattle.waf_base.specs.Counts.{Rose}
use Rattle.wafreview_run.specs.CommandLine.{review}
use Rattle.wafreview_run.proofs.DueAnswers.{due_cause}
use Rattle.wafreview_run.proofs.running.review_files.Goals as goal

pub returns-in-Ok : goal.returns-in-Ok
returns-in-Ok g c =
    let files = g.F.Files in
    let read = c.in-Ok.read in
    due_cause (files.tells c.args.files.now) (files.sure c.args.files.now) (Rose (files.faults c.args.files.now) (files.faults c.read_two.new.files))
    (Rose (files.long_reads c.args.files.now) (files.long_reads c.read_two.new.files))
    (review c.args.old.now c.args.new.now) (read.first.items ∷ read.second.items ∷ []) _ c.in-Ok.ensures.bytes c.review_answer.ensures
