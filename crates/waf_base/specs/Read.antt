-- What a read of a name answers, from what the name holds, and how it is counted (this project's own).
use Rattle.std.specs.Prelude.{ℕ, ◌≡◌, ◌<◌, ◌≤◌, length, Result, Ok, Err, Vec}
use Rattle.std.specs.declared.alloc.Global.{Global}
use Rattle.waf_base.specs.Counts.{one_more}
use Rattle.waf_base.specs.Holding.{Holding, Untold, Absent, Holds, longest_file}
use Rattle.waf_base.specs.declared.files.FileEnd.{FileEnd}
use Rattle.waf_base.specs.declared.files.FileEnd.TheVariants.{Failed, TooLong, Memory}

-- The read answers just by what is held: the bytes where they are no longer than a file may be, that the file is
-- too long where they are longer, and a failure where nothing is held; or that memory was wanting.
abbrev pub AnswersBy : Holding → Result (Vec ℕ Global) FileEnd → Type 0
AnswersBy Untold result = Unit {0}
AnswersBy Absent (Ok bytes) = ⊥
AnswersBy Absent (Err end) = (end ≡ Memory → ⊥) → end ≡ Failed
AnswersBy (Holds held) (Ok bytes) = (bytes.items ≡ held) × (length held ≤ longest_file)
AnswersBy (Holds held) (Err end) = (end ≡ Memory → ⊥) → (end ≡ TooLong) × (longest_file < length held)

-- a failure raises the count of faults by one, and nothing else changes it
abbrev pub faults_after : Result (Vec ℕ Global) FileEnd → ℕ → ℕ
faults_after (Ok bytes) count = count
faults_after (Err Failed) count = one_more count
faults_after (Err TooLong) count = count
faults_after (Err Memory) count = count

-- a file that is too long raises the count of long reads by one, and nothing else changes it
abbrev pub long_after : Result (Vec ℕ Global) FileEnd → ℕ → ℕ
long_after (Ok bytes) count = count
long_after (Err Failed) count = count
long_after (Err TooLong) count = one_more count
long_after (Err Memory) count = count
