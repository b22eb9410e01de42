-- The grammar of command lines (this project's own).
use Rattle.std.specs.Prelude.{ℕ, List, [], ◌∷◌, codes, Bool, false, not, ◌&&◌, ◌==◌, if◌then◌else◌, Option, Some, None}
use Rattle.std.specs.Str.{bytes_eq}
use Rattle.wafreview_run.specs.declared.role.Role.{Role}
use Rattle.wafreview_run.specs.declared.role.Role.TheVariants as roles

-- a command with the names of its files
pub data Command : Type 0 where
  evaluate : (bundle request : List ℕ) (answers : Option (List ℕ)) → Command
  capacity : (bundle : List ℕ) → Command
  keys : (bundle : List ℕ) → Command
  review : (old new : List ℕ) → Command
  impact : (old new log : List ℕ) (answers : Option (List ℕ)) → Command

-- a file's name is a word that isn't empty and doesn't begin with `-`
abbrev pub is_file_word : List ℕ → Bool
is_file_word [] = false
is_file_word (b ∷ bytes) = not (b == 45)

-- `evaluate BUNDLE REQUEST [ANSWERS]`, `capacity BUNDLE`, `keys BUNDLE`, `review OLD NEW` and `impact OLD NEW LOG [ANSWERS]`
abbrev pub command_of : List (List ℕ) → Option Command
command_of (word ∷ file ∷ []) = if is_file_word file
    then (if bytes_eq word (codes "capacity") then Some (capacity file)
    else (if bytes_eq word (codes "keys") then Some (keys file) else None)) else None
command_of (word ∷ first ∷ second ∷ []) = if is_file_word first && is_file_word second
    then (if bytes_eq word (codes "evaluate") then Some (evaluate first second None)
    else (if bytes_eq word (codes "review") then Some (review first second) else None)) else None
command_of (word ∷ first ∷ second ∷ third ∷ []) = if is_file_word first && is_file_word second && is_file_word third
    then (if bytes_eq word (codes "evaluate") then Some (evaluate first second (Some third))
    else (if bytes_eq word (codes "impact") then Some (impact first second third None) else None)) else None
command_of (word ∷ first ∷ second ∷ third ∷ fourth ∷ []) = if is_file_word first && is_file_word second && is_file_word third && is_file_word fourth
    then (if bytes_eq word (codes "impact") then Some (impact first second third (Some fourth)) else None) else None
command_of words = None

-- the file of answers, where there is one
abbrev pub answers_file : Option (List ℕ) → List (Role × List ℕ)
answers_file None = []
answers_file (Some answers) = (roles.Answers, answers) ∷ []

-- the files of a command, in the order in which they are read
abbrev pub files_of : Command → List (Role × List ℕ)
files_of (evaluate bundle request answers) = (roles.Bundle, bundle) ∷ (roles.Request, request) ∷ answers_file answers
files_of (capacity bundle) = (roles.Bundle, bundle) ∷ []
files_of (keys bundle) = (roles.Bundle, bundle) ∷ []
files_of (review old new) = (roles.Old, old) ∷ (roles.New, new) ∷ []
files_of (impact old new log answers) = (roles.Old, old) ∷ (roles.New, new) ∷ (roles.Log, log) ∷ answers_file answers
