-- What a replay answered is what is due.
use Rattle.std.proofs.Common.{◌≡◌, ℕ, List, Result, Ok, Err, subst, sym}
use Rattle.impact_replay.specs.LogReading.{LineFault, LoggedRequest, log_reading}
use Rattle.impact_replay.specs.Replayed.{IsReplayed}
use Rattle.impact_replay.specs.declared.impact.Impact.{Impact}
use Rattle.waf_model.specs.declared.answers.Answers.{Answers}
use Rattle.waf_model.specs.declared.bundle.Bundle.{Bundle}
use Rattle.waf_model.specs.declared.read_fault.ReadFault.{ReadFault}
use Rattle.wafreview_run.specs.ImpactDue.{ReplayDue}
use Rattle.wafreview_run.specs.ImpactText.{changed_code, impact_text}
use Rattle.wafreview_run.specs.Refusal.{IsLineRefused, IsRefused}
use Rattle.wafreview_run.specs.declared.role.Role.TheVariants as roles

-- the impact is printed
pub told_due : (old new : Bundle) (log : List ℕ) (answers : Answers) (impact : Impact) (code : ℕ) (text : List ℕ)
    → IsReplayed old new log answers impact → code ≡ changed_code impact.changed → text ≡ impact_text impact
    → ReplayDue old new (log_reading log) (Ok answers) code text
told_due old new log answers impact code text replayed status printed =
    subst (λ (reading : Result (List LoggedRequest) LineFault). ReplayDue old new reading (Ok answers) code text) (sym replayed.read)
    (record { impact = impact; is_impact = replayed.is_impact; status = status; printed = printed })

-- the log's first fault is refused, whatever the answers are read as
pub line_due : (old new : Bundle) (log : List ℕ) (answers : Result Answers ReadFault) (line : ℕ) (fault : ReadFault) (code : ℕ) (text : List ℕ)
    → log_reading log ≡ Err (record { line = line; fault = fault }) → IsLineRefused line fault code text
    → ReplayDue old new (log_reading log) answers code text
line_due old new log answers line fault code text read refused =
    subst (λ (reading : Result (List LoggedRequest) LineFault). ReplayDue old new reading answers code text) (sym read) refused

-- the log is read, and the fault of the answers is refused
pub answers_due : (old new : Bundle) (log : List ℕ) (answers : Answers) (impact : Impact) (fault : ReadFault) (code : ℕ) (text : List ℕ)
    → IsReplayed old new log answers impact → IsRefused roles.Answers fault code text
    → ReplayDue old new (log_reading log) (Err fault) code text
answers_due old new log answers impact fault code text replayed refused =
    subst (λ (reading : Result (List LoggedRequest) LineFault). ReplayDue old new reading (Err fault) code text) (sym replayed.read) refused
