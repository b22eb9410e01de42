-- What files in memory hold by name (this project's own).
use Rattle.std.specs.Prelude.{ℕ, List, Option, Some, None, IsSome, find}
use Rattle.std.specs.Str.{bytes_eq}
use Rattle.waf_base.specs.Holding.{Holding, Absent, Holds}
use Rattle.waf_base.specs.declared.named_file.NamedFile.{NamedFile}

-- the first file of that name
abbrev pub file_of : List NamedFile → List ℕ → Option NamedFile
file_of files name = find (λ file. bytes_eq file.name name) files

abbrev pub bytes_of : Option NamedFile → Holding
bytes_of None = Absent
bytes_of (Some file) = Holds file.bytes

-- what is held by a name: the bytes of the first file of that name, or nothing
abbrev pub held : List NamedFile → List ℕ → Holding
held files name = bytes_of (file_of files name)

-- a file of that name is there
abbrev pub IsHeld : List NamedFile → List ℕ → Type 0
IsHeld files name = IsSome (file_of files name)
