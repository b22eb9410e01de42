-- What a run of the program answers and writes (this project's own). What a sink took, where that is told, and its count of
-- faults are said of before and after.
use Rattle.std.specs.Prelude.{ℕ, ◌≡◌, ◌⊎◌, List, Option}
use Rattle.waf_base.specs.Counts.{Rose}
use Rattle.waf_base.specs.Taken.{Appends}
use Rattle.wafreview_run.specs.Fronts.{TookFront}
use Rattle.wafreview_run.specs.Answer.{code_of, text_of}
use Rattle.wafreview_run.specs.declared.answer.Answer.{Answer}

-- the sink took the whole text, its count of faults is what it was, and the status is the answer's
pub record IsWritten (before after : Option (List ℕ)) (faults_before faults_after code : ℕ) (text : List ℕ) (status : ℕ) : Type 0 where
  pub status_is : status ≡ code
  pub whole : Appends before after text
  pub level : faults_after ≡ faults_before

-- a fault of the sink was counted, and it took a front of the text; the status is 7
pub record IsBroken (before after : Option (List ℕ)) (faults_before faults_after : ℕ) (text : List ℕ) (status : ℕ) : Type 0 where
  pub status_is : status ≡ 7
  pub counted : Rose faults_before faults_after
  pub front : TookFront before after text

-- the text was written whole and no write failed, or the sink failed
abbrev pub Written : Option (List ℕ) → Option (List ℕ) → ℕ → ℕ → ℕ → List ℕ → ℕ → Type 0
Written before after faults_before faults_after code text status =
    IsWritten before after faults_before faults_after code text status ⊎ IsBroken before after faults_before faults_after text status

-- some answer that has its cause was written
abbrev pub IsAnswered : (Answer → Type 0) → (ℕ → List ℕ → ℕ → Type 0) → ℕ → Type 0
IsAnswered has_cause written status = (answer : Answer) × has_cause answer × written (code_of answer) (text_of answer) status
