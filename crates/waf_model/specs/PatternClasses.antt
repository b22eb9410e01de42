-- Classes of bytes in the text of a pattern (this project's own; AWS WAF Developer Guide, "Supported syntax for regular
-- expressions"). Each definition `.._at` says what stands at the front of a text, and what follows it.
use Rattle.std.specs.Prelude.{ℕ, zero, suc, ◌+◌, ◌-◌, ◌*◌, List, [], ◌∷◌, ◌++◌, Bool, not, ◌&&◌, ◌||◌, ◌==◌, false, nat_le, if◌then◌else◌, Option, Some, None}
use Rattle.std.specs.List.{list_any}
use Rattle.waf_model.specs.declared.pattern.ByteSet.{ByteSet}

-- The bytes from the first to the last.
abbrev pub Span : Type 0
Span = ℕ × ℕ

abbrev pub is_between : ℕ → ℕ → ℕ → Bool
is_between first last b = nat_le first b && nat_le b last

abbrev pub in_spans : List Span → ℕ → Bool
in_spans spans b = list_any (λ span. is_between span.0 span.1 b) spans

-- the other case of an ASCII letter, and every other byte itself
abbrev pub other_case : ℕ → ℕ
other_case b = if is_between 65 90 b then b + 32 else if is_between 97 122 b then b - 32 else b

-- the byte, or with `(?i)` its other case, is in a span; the other way round where the class is negated
abbrev pub class_has : List Span → Bool → Bool → ℕ → Bool
class_has spans fold negated b =
    if negated then not (in_spans spans b || (fold && in_spans spans (other_case b)))
    else (in_spans spans b || (fold && in_spans spans (other_case b)))

-- the number with a bit for each of so many bytes from `first` on, the lowest first: 1 where the byte is in the class
unfoldable pub bits : List Span → Bool → Bool → ℕ → ℕ → ℕ
bits spans fold negated first zero = 0
bits spans fold negated first (suc n) =
    (if class_has spans fold negated first then 1 else 0) + 2 * bits spans fold negated (first + 1) n

-- the set of the bytes of a class
abbrev pub set_of : List Span → Bool → Bool → ByteSet
set_of spans fold negated = record { low = bits spans fold negated 0 128; high = bits spans fold negated 128 128 }

-- `\d \w \s`, and `\D \W \S`, which are all other bytes
abbrev pub kind_spans : ℕ → Option (List Span)
kind_spans c =
    if c == 100 then Some ((48, 57) ∷ [])
    else if c == 119 then Some ((48, 57) ∷ (65, 90) ∷ (95, 95) ∷ (97, 122) ∷ [])
    else if c == 115 then Some ((9, 13) ∷ (32, 32) ∷ [])
    else if c == 68 then Some ((0, 47) ∷ (58, 255) ∷ [])
    else if c == 87 then Some ((0, 47) ∷ (58, 64) ∷ (91, 94) ∷ (96, 96) ∷ (123, 255) ∷ [])
    else if c == 83 then Some ((0, 8) ∷ (14, 31) ∷ (33, 255) ∷ [])
    else None

-- `\n \r \t \f`, and a backslash before a byte that is no letter, digit or space
abbrev pub escaped : ℕ → Option ℕ
escaped e =
    if e == 110 then Some 10 else if e == 114 then Some 13 else if e == 116 then Some 9 else if e == 102 then Some 12
    else if is_between 33 47 e || is_between 58 64 e || is_between 91 96 e || is_between 123 126 e then Some e
    else None

abbrev pub hex_digit : ℕ → Option ℕ
hex_digit b =
    if is_between 48 57 b then Some (b - 48) else if is_between 65 70 b then Some (b - 55)
    else if is_between 97 102 b then Some (b - 87) else None

-- two hex digits
abbrev pub hex_byte : Option ℕ → Option ℕ → List ℕ → Option (ℕ × List ℕ)
hex_byte (Some high) (Some low) rest = Some (16 * high + low, rest)
hex_byte (Some high) None rest = None
hex_byte None low rest = None

abbrev pub hex_at : List ℕ → Option (ℕ × List ℕ)
hex_at [] = None
hex_at (high ∷ []) = None
hex_at (high ∷ low ∷ rest) = hex_byte (hex_digit high) (hex_digit low) rest

abbrev pub followed_by : List ℕ → Option ℕ → Option (ℕ × List ℕ)
followed_by rest None = None
followed_by rest (Some b) = Some (b, rest)

-- the escape of one byte, after its backslash
abbrev pub escape_at : List ℕ → Option (ℕ × List ℕ)
escape_at [] = None
escape_at (e ∷ rest) = if e == 120 then hex_at rest else followed_by rest (escaped e)

-- `:`, `.` or `=`, which may not follow a bare `[` in a class
abbrev pub opens_name : List ℕ → Bool
opens_name [] = false
opens_name (b ∷ rest) = b == 58 || b == 46 || b == 61

-- a single byte of a class: an escape, or any byte of 32 to 126 but `\`, `]` and `-`
abbrev pub single_at : List ℕ → Option (ℕ × List ℕ)
single_at [] = None
single_at (b ∷ rest) =
    if b == 92 then escape_at rest
    else if b == 93 || b == 45 || (b == 91 && opens_name rest) then None
    else if is_between 32 126 b then Some (b, rest)
    else None

abbrev pub begins_with : ℕ → List ℕ → Bool
begins_with b [] = false
begins_with b (c ∷ rest) = c == b

abbrev pub tail : List ℕ → List ℕ
tail [] = []
tail (b ∷ rest) = rest

-- a range that ends with a single byte, not less than its first
abbrev pub range_to : ℕ → Option (ℕ × List ℕ) → Option (List Span × List ℕ)
range_to first None = None
range_to first (Some last) = if nat_le first last.0 then Some ((first, last.0) ∷ [], last.1) else None

-- what follows a single byte of a class: a `-` that isn't the last member makes it a range
abbrev pub after_single : ℕ → List ℕ → Option (List Span × List ℕ)
after_single first text =
    if begins_with 45 text && not (begins_with 93 (tail text)) then range_to first (single_at (tail text))
    else Some ((first, first) ∷ [], text)

abbrev pub after_first : Option (ℕ × List ℕ) → Option (List Span × List ℕ)
after_first None = None
after_first (Some first) = after_single first.0 first.1

abbrev pub and_rest : List ℕ → Option (List Span) → Option (List Span × List ℕ)
and_rest rest None = None
and_rest rest (Some spans) = Some (spans, rest)

-- the kind of bytes whose letter stands at the front
abbrev pub kind_after : List ℕ → Option (List Span × List ℕ)
kind_after [] = None
kind_after (c ∷ rest) = and_rest rest (kind_spans c)

-- a class escape
abbrev pub kind_at : List ℕ → Option (List Span × List ℕ)
kind_at text = if begins_with 92 text then kind_after (tail text) else None

abbrev pub kind_or : Option (List Span × List ℕ) → Option (List Span × List ℕ) → Option (List Span × List ℕ)
kind_or (Some found) other = Some found
kind_or None other = other

-- a class escape, a single byte or a range
abbrev pub plain_member_at : List ℕ → Option (List Span × List ℕ)
plain_member_at text = kind_or (kind_at text) (after_first (single_at text))

-- A member of a class, the first or a later one. A bare `-` is a single byte only as the first or the last one.
abbrev pub member_at : Bool → List ℕ → Option (List Span × List ℕ)
member_at is_first text =
    if begins_with 45 text then (if is_first || begins_with 93 (tail text) then Some ((45, 45) ∷ [], tail text) else None)
    else plain_member_at text

abbrev pub joined : List Span → Option (List Span × List ℕ) → Option (List Span × List ℕ)
joined spans None = None
joined spans (Some more) = Some (spans ++ more.0, more.1)

abbrev pub then_more : (List ℕ → Option (List Span × List ℕ)) → Option (List Span × List ℕ) → Option (List Span × List ℕ)
then_more more None = None
then_more more (Some member) = joined member.0 (more member.1)

-- Members up to the bracket that closes the class, one at least: so many steps, where each member takes a byte at least.
abbrev pub members_at : ℕ → Bool → List ℕ → Option (List Span × List ℕ)
members_at zero is_first text = None
members_at (suc n) is_first text =
    if begins_with 93 text && not is_first then Some ([], tail text)
    else then_more (members_at n false) (member_at is_first text)
