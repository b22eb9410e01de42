-- The alphabets of names (API reference, the patterns of `Name` of a web ACL and of a rule).
use Rattle.std.specs.Prelude.{ℕ, List, length, Bool, ◌&&◌, ◌||◌, ◌==◌, nat_le}
use Rattle.std.specs.List.{list_all}

-- A-Z, a-z, 0-9, `_` and `-`
abbrev pub is_name_byte : ℕ → Bool
is_name_byte b = (nat_le 65 b && nat_le b 90) || (nat_le 97 b && nat_le b 122) || (nat_le 48 b && nat_le b 57) || b == 95 || b == 45

-- a name has 1 to 128 of these
abbrev pub is_name : List ℕ → Bool
is_name text = nat_le 1 (length text) && nat_le (length text) 128 && list_all is_name_byte text

-- a byte of a name, or `:` (AWS WAF Developer Guide, "Label syntax and naming requirements")
abbrev pub is_label_byte : ℕ → Bool
is_label_byte b = is_name_byte b || b == 58

-- a label, or a key of labels, has 1 to 1,024 of these
abbrev pub is_label : List ℕ → Bool
is_label text = nat_le 1 (length text) && nat_le (length text) 1024 && list_all is_label_byte text
