-- Where the reading of files ended, with its cause (this project's own).
use Rattle.std.specs.Prelude.{ℕ, List}
use Rattle.waf_base.specs.Holding.{Holding, MayBeTooLong}
use Rattle.wafreview_run.specs.Files.{FirstUnread}
use Rattle.wafreview_run.specs.declared.named_files.Ended.{Ended}
use Rattle.wafreview_run.specs.declared.named_files.Ended.TheVariants.{Unread, TooLong, Memory}
use Rattle.wafreview_run.specs.declared.role.Role.{Role}

-- a fault was counted, of a file that wasn't sure; or a long read was, of a file that may be too long; each the first of
-- these files that was not read. Want of memory is free
abbrev pub EndsAt : (List ℕ → Holding) → (List ℕ → Type 0) → Type 0 → Type 0 → List (Role × List ℕ) → Ended → Type 0
EndsAt tells sure faulted long files (Unread role) = faulted × FirstUnread tells (λ name. sure name → ⊥) files role
EndsAt tells sure faulted long files (TooLong role) = long × FirstUnread tells (λ name. MayBeTooLong (tells name)) files role
EndsAt tells sure faulted long files Memory = Unit {0}
