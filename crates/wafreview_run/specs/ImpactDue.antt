-- The text and the status that are due for `impact` (this project's own): the first text with a fault is refused, in the
-- order old revision, new revision, log, answers; otherwise each line of the log that is decided otherwise is printed.
use Rattle.std.specs.Prelude.{ℕ, ◌≡◌, List, Result, Ok, Err}
use Rattle.impact_replay.specs.LogReading.{LoggedRequest, LineFault}
use Rattle.impact_replay.specs.Replayed.{IsImpact}
use Rattle.impact_replay.specs.declared.impact.Impact.{Impact}
use Rattle.waf_model.specs.declared.answers.Answers.{Answers}
use Rattle.waf_model.specs.declared.bundle.Bundle.{Bundle}
use Rattle.waf_model.specs.declared.read_fault.ReadFault.{ReadFault}
use Rattle.wafreview_run.specs.ImpactText.{changed_code, impact_text}
use Rattle.wafreview_run.specs.Refusal.{IsLineRefused, IsRefused}
use Rattle.wafreview_run.specs.declared.role.Role.TheVariants as roles

-- the impact of the new revision on the requests of the log is printed
pub record IsCompared (old new : Bundle) (answers : Answers) (requests : List LoggedRequest) (code : ℕ) (text : List ℕ) : Type 0 where
  pub impact : Impact
  pub is_impact : IsImpact old new answers requests impact
  pub status : code ≡ changed_code impact.changed
  pub printed : text ≡ impact_text impact

-- on two readable revisions, by what the log and the answers are read as
abbrev pub ReplayDue : Bundle → Bundle → Result (List LoggedRequest) LineFault → Result Answers ReadFault → ℕ → List ℕ → Type 0
ReplayDue old new (Err fault) answers code text = IsLineRefused fault.line fault.fault code text
ReplayDue old new (Ok requests) (Err fault) code text = IsRefused roles.Answers fault code text
ReplayDue old new (Ok requests) (Ok answers) code text = IsCompared old new answers requests code text

-- by what the four texts are read as
abbrev pub ImpactDue : Result Bundle ReadFault → Result Bundle ReadFault → Result (List LoggedRequest) LineFault → Result Answers ReadFault → ℕ → List ℕ → Type 0
ImpactDue (Err fault) new requests answers code text = IsRefused roles.Old fault code text
ImpactDue (Ok old) (Err fault) requests answers code text = IsRefused roles.New fault code text
ImpactDue (Ok old) (Ok new) requests answers code text = ReplayDue old new requests answers code text
