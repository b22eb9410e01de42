-- The answers that work and early ends make.
use Rattle.std.specs.Prelude.{ℕ, List}
use Rattle.wafreview_run.specs.declared.answer.Answer.{Answer}
use Rattle.wafreview_run.specs.declared.answer.Answer.TheVariants as answers
use Rattle.wafreview_run.specs.declared.named_files.Ended.{Ended}
use Rattle.wafreview_run.specs.declared.named_files.Ended.TheVariants as ends

-- the answer is what is due, or memory was wanting
abbrev pub IsDueOrMemory : (ℕ → List ℕ → Type 0) → Answer → Type 0
IsDueOrMemory due answers.NoMemory = Unit {0}
IsDueOrMemory due (answers.Done code text) = due code text
IsDueOrMemory due answer = ⊥

-- where the reading of files ended early, the answer says where
abbrev pub ended_answer : Ended → Answer
ended_answer (ends.Unread role) = answers.Unread role
ended_answer (ends.TooLong role) = answers.TooLong role
ended_answer ends.Memory = answers.NoMemory
