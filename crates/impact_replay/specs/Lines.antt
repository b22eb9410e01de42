-- For private clauses: a log that is read line by line.
use Rattle.std.specs.Prelude.{◌≡◌, ◌≢◌, ◌<◌, ℕ, List, [], length, Option, None, Some, Err}
use Rattle.std.specs.Borrow.{Bor}
use Rattle.impact_replay.specs.declared.replay_fault.ReplayFault.{ReplayFault}
use Rattle.impact_replay.specs.declared.replay_fault.ReplayFault.TheVariants.{Line, Memory}
use Rattle.request_parts.specs.RequestReading.{request_reading}
use Rattle.waf_model.specs.Pieces.{cut}
use Rattle.waf_model.specs.declared.read_fault.ReadFault.{ReadFault}
use Rattle.waf_model.specs.declared.read_fault.ReadFault.TheVariants as read_faults

-- the lines that are left, where that text is
abbrev pub lines_left : Option (Bor (List ℕ)) → List (List ℕ)
lines_left None = []
lines_left (Some text) = cut 10 text.now

-- the fault with the number of its line, or want of memory, which has none
abbrev pub IsNamedFault : ℕ → ReadFault → ReplayFault → Type 0
IsNamedFault number fault (Line named same) = (named ≡ number) × (same ≡ fault) × (fault ≢ read_faults.Memory)
IsNamedFault number fault Memory = fault ≡ read_faults.Memory

-- the fault is that of this line, which isn't empty, under its number, and no want of memory, which may take the place of any answer
abbrev pub IsLineFault : ℕ → List ℕ → ReplayFault → Type 0
IsLineFault number line (Line named fault) = (named ≡ number) × (0 < length line) × (request_reading line ≡ Err fault) × (fault ≢ read_faults.Memory)
IsLineFault number line Memory = Unit {0}
