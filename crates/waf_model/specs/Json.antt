-- What a JSON text is read as, and how its members are read (RFC 8259; what the tables ask is this project's own).
use Rattle.std.specs.Prelude.{ℕ, ◌+◌, List, [], ◌∷◌, ◌++◌, length, decimal, Bool, true, false, ◌&&◌, ◌==◌, nat_le, if◌then◌else◌, Option, Some, None, Result, Ok, Err}
use Rattle.std.specs.Str.Lossy.{utf8_valid_len}
use Rattle.serde_json.specs.Data.{Num, unsigned, negative, float, Data, null, boolean, number, string, array, object, Items, no_items, item, Members, no_members, member}
use Rattle.serde_json.specs.Read.{read}
use Rattle.serde_json.specs.Find.{get}
use Rattle.waf_model.specs.Gives.{◌>>=◌}
use Rattle.waf_model.specs.declared.read_fault.ReadFault.{ReadFault}
use Rattle.waf_model.specs.declared.read_fault.ReadFault.TheVariants.{Shape, Number}

-- the value of a text; none where the bytes are no UTF-8 or serde_json reads no value from them
abbrev pub parsed : List ℕ → Option Data
parsed bytes = if utf8_valid_len bytes == length bytes then read bytes else None

-- `.` and the member's name, after the path
abbrev pub member_path : List ℕ → List ℕ → List ℕ
member_path path name = path ++ 46 ∷ name

-- `[`, the index and `]`, after the path
abbrev pub index_path : List ℕ → ℕ → List ℕ
index_path path index = path ++ (91 ∷ decimal index ++ 93 ∷ [])

-- the value is null
abbrev pub is_null : Data → Bool
is_null null = true
is_null d = false

-- the value is an object
abbrev pub is_object : Data → Bool
is_object (object ms) = true
is_object d = false

-- a member that is null counts as absent
abbrev pub present : Option Data → Option Data
present None = None
present (Some d) = if is_null d then None else Some d

-- the member of that name, if it is there; the value must be an object
abbrev pub optional_at : Data → List ℕ → List ℕ → Result (Option Data) ReadFault
optional_at d name path = if is_object d then Ok (present (get name d)) else Err (Shape path)

-- what must be there, or the fault at its path
abbrev pub required : Option Data → List ℕ → Result Data ReadFault
required None path = Err (Shape path)
required (Some d) path = Ok d

-- the member of that name, which must be there
abbrev pub member_at : Data → List ℕ → List ℕ → Result Data ReadFault
member_at d name path = optional_at d name path >>= λ found. required found (member_path path name)

-- the elements of a list, in order
abbrev pub elements : Items → List Data
elements no_items = []
elements (item d ds) = d ∷ elements ds

-- the elements of a value that must be a list
abbrev pub list_at : Data → List ℕ → Result (List Data) ReadFault
list_at (array ds) path = Ok (elements ds)
list_at d path = Err (Shape path)

-- the bytes of a value that must be a text
abbrev pub text_at : Data → List ℕ → Result (List ℕ) ReadFault
text_at (string s) path = Ok s
text_at d path = Err (Shape path)

-- a value that must be true or false
abbrev pub truth_at : Data → List ℕ → Result Bool ReadFault
truth_at (boolean b) path = Ok b
truth_at d path = Err (Shape path)

-- a number that is whole, as serde_json reads it, and in the range
abbrev pub whole_number : Num → List ℕ → ℕ → ℕ → Result ℕ ReadFault
whole_number (unsigned n) path least most = if nat_le least n && nat_le n most then Ok n else Err (Number path)
whole_number (negative z) path least most = Err (Number path)
whole_number (float x) path least most = Err (Number path)

-- a value that must be a whole number in the range
abbrev pub whole_at : Data → List ℕ → ℕ → ℕ → Result ℕ ReadFault
whole_at (number n) path least most = whole_number n path least most
whole_at d path least most = Err (Shape path)

-- how many members of an object are there
abbrev pub present_members : Members → ℕ
present_members no_members = 0
present_members (member name d ms) = if is_null d then present_members ms else present_members ms + 1

-- how many members are there; a value that is no object has none
abbrev pub member_count : Data → ℕ
member_count (object ms) = present_members ms
member_count d = 0
