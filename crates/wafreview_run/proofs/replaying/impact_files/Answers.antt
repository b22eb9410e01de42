use Rattle.std.proofs.Common.{[], ◌∷◌, None, ℕ, List, subst}
use Rattle.waf_base.specs.Counts.{Rose}
use Rattle.wafreview_run.specs.CommandLine.{impact}
use Rattle.wafreview_run.proofs.DueAnswers.{due_cause, ended_cause}
use Rattle.wafreview_run.proofs.replaying.impact_files.Goals as goal

pub returns-in-Ok : goal.returns-in-Ok
returns-in-Ok g c =
    let files = g.F.Files in
    let read = c.in-Ok.read in
    due_cause (files.tells c.args.files.now) (files.sure c.args.files.now) (Rose (files.faults c.args.files.now) (files.faults c.read_three.new.files))
    (Rose (files.long_reads c.args.files.now) (files.long_reads c.read_three.new.files))
    (impact c.args.compared.old.now c.args.compared.new.now c.args.compared.log.now None) (read.first.items ∷ read.second.items ∷ read.third.items ∷ []) _ c.in-Ok.ensures.bytes c.impact_answer.ensures

pub returns-in-Err : goal.returns-in-Err
returns-in-Err g c =
    let files = g.F.Files in
    ended_cause (files.tells c.args.files.now) (files.sure c.args.files.now) (Rose (files.faults c.args.files.now) (files.faults c.read_three.new.files))
    (Rose (files.long_reads c.args.files.now) (files.long_reads c.read_three.new.files))
    (impact c.args.compared.old.now c.args.compared.new.now c.args.compared.log.now None) c.in-Err.ended _ c.answer_at.ensures c.in-Err.ensures.ended
