-- The transformation HTML_ENTITY_DECODE (API type `TextTransformation`; the definition is this project's own).
use Rattle.std.specs.Prelude.{ℕ, ◌+◌, ◌*◌, ◌%◌, List, [], ◌∷◌, length, drop, fold, find, codes, ◌==◌, ◌&&◌, ◌||◌, nat_le, if◌then◌else◌, Option, Some, None, option_map}
use Rattle.std.specs.Char.{is_digit, digit_value}
use Rattle.std.specs.List.{starts_with}
use Rattle.waf_model.specs.TransformScan.{Taken, scanned}

-- the named references and their bytes
abbrev pub named_references : List (List ℕ × ℕ)
named_references = (codes "&quot;", 34) ∷ (codes "&lt;", 60) ∷ (codes "&gt;", 62) ∷ (codes "&amp;", 38) ∷ (codes "&nbsp;", 160) ∷ []

-- a named reference at the front becomes its byte
abbrev pub named_at : List ℕ → Option Taken
named_at text =
    option_map (λ reference. record { image = reference.1 ∷ []; size = length reference.0 })
    (find (λ reference. starts_with ◌==◌ text reference.0) named_references)

-- the values of the digits that the text begins with, in that base
abbrev pub leading_digits : ℕ → List ℕ → List ℕ
leading_digits base [] = []
leading_digits base (b ∷ rest) = if is_digit b base then digit_value b ∷ leading_digits base rest else []

-- the number that digits stand for, the most significant first
abbrev pub number_of : ℕ → List ℕ → ℕ
number_of base digits = fold (λ n d. n * base + d) 0 digits

-- 1 to 7 digits and `;` at the front become the byte of their number modulo 256
abbrev pub numbered_at : ℕ → List ℕ → Option Taken
numbered_at base text =
    let digits : List ℕ = leading_digits base text in
    if nat_le 1 (length digits) && nat_le (length digits) 7 && starts_with ◌==◌ (drop (length digits) text) (codes ";")
    then Some (record { image = number_of base digits % 256 ∷ []; size = length digits + 1 }) else None

-- what is taken has so many bytes more in front
abbrev pub with_mark : ℕ → Taken → Taken
with_mark size front = record { image = front.image; size = size + front.size }

-- a reference at the front: `&#x` or `&#X` and hexadecimal digits, `&#` and decimal digits, or a name
abbrev pub reference_at : List ℕ → Option Taken
reference_at text =
    if starts_with ◌==◌ text (codes "&#x") || starts_with ◌==◌ text (codes "&#X") then option_map (with_mark 3) (numbered_at 16 (drop 3 text))
    else if starts_with ◌==◌ text (codes "&#") then option_map (with_mark 2) (numbered_at 10 (drop 2 text))
    else named_at text

-- HTML_ENTITY_DECODE: each reference becomes its byte
unfoldable pub entities_decoded : List ℕ → List ℕ
entities_decoded text = scanned reference_at 0 text
