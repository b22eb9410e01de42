use Rattle.std.proofs.Common.{ℕ, List, [], ◌∷◌, subst}
use Rattle.set_json.specs.Bundles.{bundle_reading}
use Rattle.waf_base.specs.Counts.{Rose}
use Rattle.wafreview_run.specs.AnswerOf.{IsDueOrMemory}
use Rattle.wafreview_run.specs.CommandLine.{keys}
use Rattle.wafreview_run.specs.Due.{KeysDue}
use Rattle.wafreview_run.proofs.DueAnswers.{due_cause}
use Rattle.wafreview_run.proofs.running.keys_file.Goals as goal

pub returns-in-Ok : goal.returns-in-Ok
returns-in-Ok g c =
    let files = g.F.Files in
    let read = c.in-Ok.read in
    let due = subst (λ (bytes : List ℕ). IsDueOrMemory (KeysDue (bundle_reading bytes)) c.keys_answer.result) c.deref.ensures.value c.keys_answer.ensures in
    due_cause (files.tells c.args.files.now) (files.sure c.args.files.now) (Rose (files.faults c.args.files.now) (files.faults c.read_one.new.files))
    (Rose (files.long_reads c.args.files.now) (files.long_reads c.read_one.new.files))
    (keys c.args.bundle.now) (read.items ∷ []) _ c.in-Ok.ensures.bytes due
