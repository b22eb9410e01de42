-- The answers of a run with their causes, statuses and texts (this project's own).
use Rattle.std.specs.Prelude.{ℕ, List, Option, Some, None}
use Rattle.waf_base.specs.Holding.{Holding, MayBeTooLong}
use Rattle.wafreview_run.specs.CommandLine.{Command, files_of}
use Rattle.wafreview_run.specs.Due.{Due}
use Rattle.wafreview_run.specs.Files.{AreRead, FirstUnread}
use Rattle.wafreview_run.specs.Texts.{usage_text, unread_text, too_long_text, memory_text}
use Rattle.wafreview_run.specs.declared.answer.Answer.{Answer}
use Rattle.wafreview_run.specs.declared.answer.Answer.TheVariants.{Usage, Unread, TooLong, Done, NoMemory}

-- the status of an answer
abbrev pub code_of : Answer → ℕ
code_of Usage = 2
code_of (Unread role) = 6
code_of (TooLong role) = 9
code_of (Done code text) = code
code_of NoMemory = 8

-- the text of an answer
abbrev pub text_of : Answer → List ℕ
text_of Usage = usage_text
text_of (Unread role) = unread_text role
text_of (TooLong role) = too_long_text role
text_of (Done code text) = text
text_of NoMemory = memory_text

-- every file may have been read as these bytes, and this is due for them; where nothing is told of a file, any bytes may
-- be its bytes
abbrev pub IsDue : (List ℕ → Holding) → Command → ℕ → List ℕ → Type 0
IsDue tells command code text = (contents : List (List ℕ)) × AreRead tells (files_of command) contents × Due command contents code text

-- The answer has its cause: words outside the grammar; a fault that was counted, of a file that wasn't sure, or a long read
-- that was counted, of a file that may be too long, where every file named before it may have been read; or what is due.
-- Want of memory is free.
abbrev pub HasCause : (List ℕ → Holding) → (List ℕ → Type 0) → Type 0 → Type 0 → Option Command → Answer → Type 0
HasCause tells sure faulted long command NoMemory = Unit {0}
HasCause tells sure faulted long None Usage = Unit {0}
HasCause tells sure faulted long None answer = ⊥
HasCause tells sure faulted long (Some command) Usage = ⊥
HasCause tells sure faulted long (Some command) (Unread role) = faulted × FirstUnread tells (λ name. sure name → ⊥) (files_of command) role
HasCause tells sure faulted long (Some command) (TooLong role) = long × FirstUnread tells (λ name. MayBeTooLong (tells name)) (files_of command) role
HasCause tells sure faulted long (Some command) (Done code text) = IsDue tells command code text
