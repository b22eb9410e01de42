-- What a log says of two revisions (this project's own): which of its requests they decide otherwise.
use Rattle.std.specs.Prelude.{◌≡◌, ◌≢◌, ◌<◌, ◌↔◌, ℕ, List, length, All, AllPairs, Ok, Err}
use Rattle.std.specs.List.{Contains}
use Rattle.impact_replay.specs.LogReading.{LoggedRequest, log_reading}
use Rattle.impact_replay.specs.declared.impact.Change.{Change}
use Rattle.impact_replay.specs.declared.impact.Impact.{Impact}
use Rattle.impact_replay.specs.declared.replay_fault.ReplayFault.{ReplayFault}
use Rattle.impact_replay.specs.declared.replay_fault.ReplayFault.TheVariants.{Line, Memory}
use Rattle.waf_model.specs.Alike.{Decides}
use Rattle.waf_model.specs.Within.{Within}
use Rattle.waf_model.specs.declared.answers.Answers.{Answers}
use Rattle.waf_model.specs.declared.bundle.Bundle.{Bundle}
use Rattle.waf_model.specs.declared.read_fault.ReadFault.TheVariants as read_faults
use Rattle.waf_model.specs.declared.request.Request.{Request}

-- the request of that line is decided by each revision as the change says, and the decisions differ, or the codes of blocks
pub record IsChange (old new : Bundle) (answers : Answers) (requests : List LoggedRequest) (change : Change) : Type 0 where
  pub request : Request
  pub logged : Contains requests (record { line = change.line; request = request })
  pub old_decides : Decides old request answers change.old
  pub new_decides : Decides new request answers change.new
  pub differ : change.old ≢ change.new

-- how many requests there are, and exactly the changes, ascending by line, each once
pub record IsImpact (old new : Bundle) (answers : Answers) (requests : List LoggedRequest) (impact : Impact) : Type 0 where
  pub lines : impact.lines ≡ length requests
  pub ascend : AllPairs (λ a b. a.line < b.line) impact.changed
  pub exactly : (change : Change) → Contains impact.changed change ↔ IsChange old new answers requests change

-- the log is read, and this is the impact on its requests
pub record IsReplayed (old new : Bundle) (log : List ℕ) (answers : Answers) (impact : Impact) : Type 0 where
  pub requests : List LoggedRequest
  pub read : log_reading log ≡ Ok requests
  pub is_impact : IsImpact old new answers requests impact

-- the fault of a line is the log's first and no want of memory, which may take the place of any answer
abbrev pub IsLogFault : List ℕ → ReplayFault → Type 0
IsLogFault log (Line number fault) = (log_reading log ≡ Err (record { line = number; fault = fault })) × (fault ≢ read_faults.Memory)
IsLogFault log Memory = Unit {0}

-- every request of the log is within the limits, with a body of at most so many bytes
abbrev pub IsLogWithin : List ℕ → ℕ → Type 0
IsLogWithin log body_limit = (requests : List LoggedRequest) → log_reading log ≡ Ok requests → All (λ logged. Within logged.request body_limit) requests
