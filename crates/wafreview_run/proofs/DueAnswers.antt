-- What is due, and the end of reading, as causes of answers.
use Rattle.std.proofs.Common.{ℕ, ◌≡◌, List, Some, subst, sym}
use Rattle.waf_base.specs.Holding.{Holding}
use Rattle.wafreview_run.specs.Answer.{HasCause}
use Rattle.wafreview_run.specs.AnswerOf.{IsDueOrMemory, ended_answer}
use Rattle.wafreview_run.specs.CommandLine.{Command, files_of}
use Rattle.wafreview_run.specs.Due.{Due}
use Rattle.wafreview_run.specs.Ended.{EndsAt}
use Rattle.wafreview_run.specs.Files.{AreRead}
use Rattle.wafreview_run.specs.declared.answer.Answer.{Answer}
use Rattle.wafreview_run.specs.declared.answer.Answer.TheVariants as answers
use Rattle.wafreview_run.specs.declared.named_files.Ended.{Ended}
use Rattle.wafreview_run.specs.declared.named_files.Ended.TheVariants as ends

-- what is due for the bytes that were read, or want of memory
pub due_cause : (tells : List ℕ → Holding) (sure : List ℕ → Type 0) (faulted long : Type 0) (command : Command) (contents : List (List ℕ)) (answer : Answer)
    → AreRead tells (files_of command) contents → IsDueOrMemory (Due command contents) answer → HasCause tells sure faulted long (Some command) answer
due_cause tells sure faulted long command contents answers.NoMemory read due = tt
due_cause tells sure faulted long command contents (answers.Done code text) read due = (contents, read, due)
due_cause tells sure faulted long command contents answers.Usage read due = absurd due
due_cause tells sure faulted long command contents (answers.Unread role) read due = absurd due
due_cause tells sure faulted long command contents (answers.TooLong role) read due = absurd due

-- the end of reading at one of the command's files
pub ended_cause : (tells : List ℕ → Holding) (sure : List ℕ → Type 0) (faulted long : Type 0) (command : Command) (ended : Ended) (answer : Answer)
    → answer ≡ ended_answer ended → EndsAt tells sure faulted long (files_of command) ended → HasCause tells sure faulted long (Some command) answer
ended_cause tells sure faulted long command (ends.Unread role) answer is end = subst (λ (a : Answer). HasCause tells sure faulted long (Some command) a) (sym is) end
ended_cause tells sure faulted long command (ends.TooLong role) answer is end = subst (λ (a : Answer). HasCause tells sure faulted long (Some command) a) (sym is) end
ended_cause tells sure faulted long command ends.Memory answer is end = subst (λ (a : Answer). HasCause tells sure faulted long (Some command) a) (sym is) tt
