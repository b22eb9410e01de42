-- What files tell of a name, and what a read of it may then answer.
use Rattle.std.specs.Prelude.{ℕ, ◌≡◌, ◌<◌, ◌≤◌, List, length}

-- the greatest length of a file that is read, in bytes (this project's own)
abbrev pub longest_file : ℕ
longest_file = 67108864

-- what is told of a name: nothing, that it isn't there, or the bytes that it holds
pub data Holding : Type 0 where
  Untold : Holding
  Absent : Holding
  Holds : List ℕ → Holding

-- these may be the bytes that a read gives: any where nothing is told, none where the name isn't there, and what
-- is held where that is no longer than a file may be
abbrev pub MayRead : Holding → List ℕ → Type 0
MayRead Untold bytes = Unit {0}
MayRead Absent bytes = ⊥
MayRead (Holds held) bytes = (bytes ≡ held) × (length held ≤ longest_file)

-- a read may answer that the file is too long
abbrev pub MayBeTooLong : Holding → Type 0
MayBeTooLong Untold = Unit {0}
MayBeTooLong Absent = ⊥
MayBeTooLong (Holds held) = longest_file < length held
