-- Transformations of hexadecimal digits: HEX_DECODE and SQL_HEX_DECODE (API type `TextTransformation`; each definition
-- is this project's own).
use Rattle.std.specs.Prelude.{ℕ, ◌+◌, ◌*◌, List, [], ◌∷◌, length, drop, codes, Bool, true, false, not, ◌==◌, ◌&&◌, ◌||◌, if◌then◌else◌, Option, Some, None}
use Rattle.std.specs.Char.{is_digit, digit_value}
use Rattle.std.specs.List.{starts_with}
use Rattle.waf_model.specs.TransformScan.{Taken, scanned}

-- both bytes are hexadecimal digits, in either case
abbrev pub is_pair : ℕ → ℕ → Bool
is_pair high low = is_digit high 16 && is_digit low 16

-- the byte that two hexadecimal digits stand for
abbrev pub pair_byte : ℕ → ℕ → ℕ
pair_byte high low = 16 * digit_value high + digit_value low

-- the text is an even number of hexadecimal digits and nothing else
abbrev pub is_pairs : List ℕ → Bool
is_pairs [] = true
is_pairs (b ∷ []) = false
is_pairs (high ∷ low ∷ rest) = is_pair high low && is_pairs rest

-- the bytes of as many pairs of digits as stand at the front of the text
abbrev pub leading_pairs : List ℕ → List ℕ
leading_pairs [] = []
leading_pairs (b ∷ []) = []
leading_pairs (high ∷ low ∷ rest) = if is_pair high low then pair_byte high low ∷ leading_pairs rest else []

-- HEX_DECODE: an even number of digits becomes the bytes of its pairs, and every other text stays
unfoldable pub hex_decoded : List ℕ → List ℕ
hex_decoded text = if is_pairs text then leading_pairs text else text

-- a hexadecimal literal of SQL at the front: `0x` or `0X` and one pair of digits or more, as many as stand there
abbrev pub sql_hex_at : List ℕ → Option Taken
sql_hex_at text =
    let bytes : List ℕ = leading_pairs (drop 2 text) in
    if (starts_with ◌==◌ text (codes "0x") || starts_with ◌==◌ text (codes "0X")) && not (length bytes == 0)
    then Some (record { image = bytes; size = 2 + 2 * length bytes }) else None

-- SQL_HEX_DECODE: each literal becomes the bytes of its pairs
unfoldable pub sql_hex_decoded : List ℕ → List ℕ
sql_hex_decoded text = scanned sql_hex_at 0 text
