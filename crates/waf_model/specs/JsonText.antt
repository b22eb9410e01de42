-- JSON texts as they are written: compact, in which only what must be escaped is (RFC 8259, 7).
use Rattle.std.specs.Prelude.{ℕ, ◌+◌, ◌/◌, ◌%◌, List, [], ◌∷◌, ◌++◌, codes, Bool, ◌==◌, nat_lt, if◌then◌else◌}
use Rattle.std.specs.List.{flat_map}

-- a hexadecimal digit in lower case
abbrev pub hex_digit : ℕ → ℕ
hex_digit n = if nat_lt n 10 then 48 + n else 87 + n

-- a byte within a text: `"` and `\` after a `\`; 8, 9, 10, 12 and 13 by their letters; every other byte below 32 as
-- `\u00` and two digits; all others as they are
abbrev pub escaped : ℕ → List ℕ
escaped b = if b == 34 then codes "\\\"" else (if b == 92 then codes "\\\\"
    else (if b == 8 then codes "\\b" else (if b == 9 then codes "\\t" else (if b == 10 then codes "\\n"
    else (if b == 12 then codes "\\f" else (if b == 13 then codes "\\r"
    else (if nat_lt b 32 then codes "\\u00" ++ hex_digit (b / 16) ∷ hex_digit (b % 16) ∷ [] else b ∷ [])))))))

-- a text in quotation marks
abbrev pub json_string : List ℕ → List ℕ
json_string text = 34 ∷ flat_map escaped text ++ 34 ∷ []

-- elements with commas between
abbrev pub with_commas : List (List ℕ) → List ℕ
with_commas [] = []
with_commas (x ∷ []) = x
with_commas (x ∷ y ∷ xs) = x ++ 44 ∷ with_commas (y ∷ xs)

-- a list
abbrev pub json_list : List (List ℕ) → List ℕ
json_list xs = 91 ∷ with_commas xs ++ 93 ∷ []

abbrev pub json_truth : Bool → List ℕ
json_truth b = if b then codes "true" else codes "false"
