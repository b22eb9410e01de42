-- For private clauses: two revisions, each prepared, beside each other on one request.
use Rattle.std.specs.Prelude.{◌≡◌, ◌≢◌, ◌<◌, ◌+◌, ◌++◌, ◌⊎◌, ℕ, List, [], length, Option, None, Some, Ok}
use Rattle.std.specs.Option.{option_to_list}
use Rattle.acl_eval.specs.Preparation.{IsPreparedFor}
use Rattle.impact_replay.specs.declared.impact.Change.{Change}
use Rattle.impact_replay.specs.declared.impact.Impact.{Impact}
use Rattle.impact_replay.specs.declared.revisions.Revisions.{Revisions}
use Rattle.request_parts.specs.RequestReading.{request_reading}
use Rattle.waf_model.specs.Alike.{Decides}
use Rattle.waf_model.specs.WholeBundle.{IsWhole}
use Rattle.waf_model.specs.declared.action.Decision.{Decision}
use Rattle.waf_model.specs.declared.answers.Answers.{Answers}
use Rattle.waf_model.specs.declared.bundle.Bundle.{Bundle}
use Rattle.waf_model.specs.declared.request.Request.{Request}

-- the two are those bundles, which are whole
pub record AreRevisions (old new : Bundle) (revisions : Revisions) : Type 0 where
  pub old_prepared : IsPreparedFor old revisions.old
  pub new_prepared : IsPreparedFor new revisions.new
  pub old_whole : IsWhole old
  pub new_whole : IsWhole new

-- the web ACL decides so, and not otherwise
pub record IsDecision (bundle : Bundle) (request : Request) (answers : Answers) (decision : Decision) : Type 0 where
  pub decides : Decides bundle request answers decision
  pub alone : (other : Decision) → Decides bundle request answers other → other ≡ decision

-- both decisions are equal, or the change is that of the line, with both, which differ
abbrev pub IsChangeOf : ℕ → Decision → Decision → Option Change → Type 0
IsChangeOf line old new None = old ≡ new
IsChangeOf line old new (Some change) = (change.line ≡ line) × (change.old ≡ old) × (change.new ≡ new) × (old ≢ new)

-- each decides the request of the line so, which makes the change
pub record IsCompared (old new : Bundle) (answers : Answers) (line : ℕ) (request : Request) (change : Option Change) : Type 0 where
  pub old_decision : Decision
  pub new_decision : Decision
  pub by_old : IsDecision old request answers old_decision
  pub by_new : IsDecision new request answers new_decision
  pub change_of : IsChangeOf line old_decision new_decision change

-- the line, which isn't empty, is read as a request, and both revisions are compared on it
pub record IsLineCompared (revisions : Revisions) (number : ℕ) (line : List ℕ) (change : Option Change) : Type 0 where
  pub filled : 0 < length line
  pub request : Request
  pub read : request_reading line ≡ Ok request
  pub compared : (old new : Bundle) → AreRevisions old new revisions → IsCompared old new revisions.answers.now number request change

-- one line more is counted, with the change that it shows, if it shows one
pub record HasCounted (revisions : Revisions) (number : ℕ) (line : List ℕ) (before after : Impact) : Type 0 where
  pub change : Option Change
  pub compared : IsLineCompared revisions number line change
  pub lines : after.lines ≡ before.lines + 1
  pub changed : after.changed ≡ before.changed ++ option_to_list change

-- an empty line shows nothing, and any other is counted
abbrev pub IsLineReplayed : Revisions → ℕ → List ℕ → Impact → Impact → Type 0
IsLineReplayed revisions number line before after = ((line ≡ []) × (after ≡ before)) ⊎ HasCounted revisions number line before after
