-- How members of an object are read, with the faults that all tables share: a text, a name, one of a list of words, a
-- number in a range, a list within a limit (what the tables ask is this project's own).
use Rattle.std.specs.Prelude.{ℕ, ◌+◌, List, [], ◌∷◌, length, codes, Bool, ◌==◌, nat_lt, is_some, count_by, if◌then◌else◌, Option, Some, None, Result, Ok, Err, ⊤}
use Rattle.std.specs.Str.{bytes_eq}
use Rattle.serde_json.specs.Data.{Data}
use Rattle.serde_json.specs.Find.{get}
use Rattle.waf_model.specs.Gives.{◌>>=◌}
use Rattle.waf_model.specs.Json.{present, member_path, index_path, optional_at, member_at, list_at, text_at, whole_at, is_object}
use Rattle.waf_model.specs.Letters.{is_label, is_name}
use Rattle.waf_model.specs.declared.read_fault.ReadFault.{ReadFault}
use Rattle.waf_model.specs.declared.read_fault.ReadFault.TheVariants as faults

-- Ok where the test is true, and else the fault
abbrev pub ensured : Bool → ReadFault → Result ⊤ ReadFault
ensured holds fault = if holds then Ok tt else Err fault

-- a member of that name is there; null counts as absent
abbrev pub is_there : List ℕ → Data → Bool
is_there name d = is_some (present (get name d))

-- how many members of these names are there
abbrev pub named_count : List (List ℕ) → Data → ℕ
named_count names d = count_by (λ name. is_there name d) names

-- the value must be an object
abbrev pub object_at : Data → List ℕ → Result ⊤ ReadFault
object_at d path = ensured (is_object d) (faults.Shape path)

-- the member of that name, which must be a text
abbrev pub text_member_at : Data → List ℕ → List ℕ → Result (List ℕ) ReadFault
text_member_at d name path = member_at d name path >>= λ found. text_at found (member_path path name)

-- the member of that name, which must be a label
abbrev pub label_at : Data → List ℕ → List ℕ → Result (List ℕ) ReadFault
label_at d name path = do
  text ← text_member_at d name path
  labelled ← ensured (is_label text) (faults.Name (member_path path name))
  Ok text

-- `Name`, which must be a name
abbrev pub name_at : Data → List ℕ → Result (List ℕ) ReadFault
name_at d path = do
  text ← text_member_at d (codes "Name") path
  named ← ensured (is_name text) (faults.Name (member_path path (codes "Name")))
  Ok text

-- the text, where there is a value
abbrev pub optional_text : Option Data → List ℕ → Result (Option (List ℕ)) ReadFault
optional_text None path = Ok None
optional_text (Some found) path = text_at found path >>= λ text. Ok (Some text)

-- the member of that name, which must be a text where it is there
abbrev pub optional_text_at : Data → List ℕ → List ℕ → Result (Option (List ℕ)) ReadFault
optional_text_at d name path = optional_at d name path >>= λ found. optional_text found (member_path path name)

-- the member of that name, which must be a whole number in the range
abbrev pub whole_member_at : Data → List ℕ → ℕ → ℕ → List ℕ → Result ℕ ReadFault
whole_member_at d name least most path = member_at d name path >>= λ found. whole_at found (member_path path name) least most

-- the elements of the member of that name, which must be a list
abbrev pub list_member_at : Data → List ℕ → List ℕ → Result (List Data) ReadFault
list_member_at d name path = member_at d name path >>= λ found. list_at found (member_path path name)

-- the elements, where there is a value; none where there is none
abbrev pub optional_list : Option Data → List ℕ → Result (List Data) ReadFault
optional_list None path = Ok []
optional_list (Some found) path = list_at found path

-- the elements of the member of that name, which must be a list where it is there
abbrev pub optional_list_at : Data → List ℕ → List ℕ → Result (List Data) ReadFault
optional_list_at d name path = optional_at d name path >>= λ found. optional_list found (member_path path name)

-- a list of at most so many elements
abbrev pub limited : {A : Type 0} → ℕ → List A → List ℕ → Result (List A) ReadFault
limited most all path = if nat_lt most (length all) then Err (faults.Limit path most) else Ok all

-- what the word means in a table of words and their meanings
abbrev pub meaning : {A : Type 0} → List (List ℕ × A) → List ℕ → Option A
meaning [] text = None
meaning (entry ∷ entries) text = if bytes_eq text entry.0 then Some entry.1 else meaning entries text

-- the meaning, where the word has one
abbrev pub known : {A : Type 0} → Option A → List ℕ → Result A ReadFault
known None path = Err (faults.Name path)
known (Some value) path = Ok value

-- the member of that name, which must be one of the words of the table
abbrev pub word_at : {A : Type 0} → Data → List ℕ → List (List ℕ × A) → List ℕ → Result A ReadFault
word_at d name words path = text_member_at d name path >>= λ text. known (meaning words text) (member_path path name)

-- each element, in the order of the list, the first of them at that index
abbrev pub each_from : {A : Type 0} → (Data → List ℕ → Result A ReadFault) → ℕ → List Data → List ℕ → Result (List A) ReadFault
each_from read index [] path = Ok []
each_from read index (d ∷ ds) path = do
  one ← read d (index_path path index)
  rest ← each_from read (index + 1) ds path
  Ok (one ∷ rest)

-- each element of a list
abbrev pub each_of : {A : Type 0} → (Data → List ℕ → Result A ReadFault) → List Data → List ℕ → Result (List A) ReadFault
each_of read all path = each_from read 0 all path
