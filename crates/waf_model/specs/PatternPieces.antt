-- The pieces that the text of a pattern is made of (this project's own; AWS WAF Developer Guide, "Supported syntax for
-- regular expressions"). Each definition `.._at` says what stands at the front of a text, and what follows it.
use Rattle.std.specs.Prelude.{◌≡◌, ℕ, ◌+◌, ◌-◌, ◌*◌, List, [], ◌∷◌, length, Bool, true, false, ◌&&◌, ◌==◌, nat_le, if◌then◌else◌, Option, Some, None}
pub use Rattle.waf_model.specs.PatternClasses.{Span, is_between, in_spans, other_case, class_has, bits, set_of, kind_spans, escaped, hex_digit, hex_byte, hex_at, followed_by, escape_at, opens_name, single_at, begins_with, tail, range_to, after_single, after_first, and_rest, kind_after, kind_at, kind_or, plain_member_at, member_at, joined, then_more, members_at}
use Rattle.waf_model.specs.declared.pattern.ByteSet.{ByteSet}
use Rattle.waf_model.specs.declared.pattern.Pattern.{Pattern, Start, Final}

-- What a text is cut into. A count has the times at least and at most, and the factor by which places are multiplied.
pub data Piece : Type 0 where
  set : (bytes : ByteSet) → Piece
  anchor : (pattern : Pattern) → Piece
  opens : Piece
  closes : Piece
  bar : Piece
  count : (least : ℕ) (most : Option ℕ) (factor : ℕ) → Piece

abbrev pub class_set : Bool → Bool → Option (List Span × List ℕ) → Option (Piece × List ℕ)
class_set fold negated None = None
class_set fold negated (Some members) = Some (set (set_of members.0 fold negated), members.1)

-- a class, after its opening bracket
abbrev pub class_at : Bool → List ℕ → Option (Piece × List ℕ)
class_at fold text =
    if begins_with 94 text then class_set fold true (members_at (length (tail text)) true (tail text))
    else class_set fold false (members_at (length text) true text)

abbrev pub spans_set : Bool → Option (List Span × List ℕ) → Option (Piece × List ℕ)
spans_set fold None = None
spans_set fold (Some found) = Some (set (set_of found.0 fold false), found.1)

abbrev pub one_span : Option (ℕ × List ℕ) → Option (List Span × List ℕ)
one_span None = None
one_span (Some found) = Some ((found.0, found.0) ∷ [], found.1)

-- an escape, after its backslash
abbrev pub escape_set_at : Bool → List ℕ → Option (Piece × List ℕ)
escape_set_at fold text = spans_set fold (kind_or (kind_after text) (one_span (escape_at text)))

-- one byte of a set: `.` is any byte but 10, and any byte of 32 to 126 that means nothing else is itself
abbrev pub atom_at : Bool → ℕ → List ℕ → Option (Piece × List ℕ)
atom_at fold b rest =
    if b == 46 then Some (set (set_of ((0, 9) ∷ (11, 255) ∷ []) fold false), rest)
    else if b == 91 then class_at fold rest
    else if b == 92 then escape_set_at fold rest
    else if is_between 32 126 b then Some (set (set_of ((b, b) ∷ []) fold false), rest)
    else None

-- a `(`, after it: one that is followed by `?` is read as `(?:` alone
abbrev pub group_at : List ℕ → Option (Piece × List ℕ)
group_at text =
    if begins_with 63 text then (if begins_with 58 (tail text) then Some (opens, tail (tail text)) else None)
    else Some (opens, text)

abbrev pub is_digit : ℕ → Bool
is_digit b = is_between 48 57 b

-- one more decimal digit, where one stands there
abbrev pub more_digit : ℕ × List ℕ → ℕ × List ℕ
more_digit (n, []) = (n, [])
more_digit (n, b ∷ rest) = if is_digit b then (10 * n + (b - 48), rest) else (n, b ∷ rest)

-- one to three decimal digits, a number of at most 100
abbrev pub at_most_100 : ℕ × List ℕ → Option (ℕ × List ℕ)
at_most_100 number = if nat_le number.0 100 then Some number else None

abbrev pub number_at : List ℕ → Option (ℕ × List ℕ)
number_at [] = None
number_at (b ∷ rest) = if is_digit b then at_most_100 (more_digit (more_digit (b - 48, rest))) else None

-- a lazy count means the same as the other
abbrev pub without_lazy : List ℕ → List ℕ
without_lazy text = if begins_with 63 text then tail text else text

abbrev pub after_most : ℕ → Option (ℕ × List ℕ) → Option (Piece × List ℕ)
after_most least None = None
after_most least (Some most) =
    if nat_le least most.0 && begins_with 125 most.1 then Some (count least (Some most.0) most.0, without_lazy (tail most.1)) else None

abbrev pub after_comma : ℕ → List ℕ → Option (Piece × List ℕ)
after_comma least text =
    if begins_with 125 text then Some (count least None (least + 1), without_lazy (tail text)) else after_most least (number_at text)

abbrev pub after_least : Option (ℕ × List ℕ) → Option (Piece × List ℕ)
after_least None = None
after_least (Some least) =
    if begins_with 125 least.1 then Some (count least.0 (Some least.0) least.0, without_lazy (tail least.1))
    else if begins_with 44 least.1 then after_comma least.0 (tail least.1)
    else None

-- `{m}`, `{m,}` or `{m,n}` with m <= n, after the brace
abbrev pub braces_at : List ℕ → Option (Piece × List ℕ)
braces_at text = after_least (number_at text)

-- `*`, `+`, `?` or a count in braces, with its lazy `?`
abbrev pub count_or_atom_at : Bool → ℕ → List ℕ → Option (Piece × List ℕ)
count_or_atom_at fold b rest =
    if b == 42 then Some (count 0 None 1, without_lazy rest)
    else if b == 43 then Some (count 1 None 1, without_lazy rest)
    else if b == 63 then Some (count 0 (Some 1) 1, without_lazy rest)
    else if b == 123 then braces_at rest
    else atom_at fold b rest

-- the piece at the front of a text, and what follows it; with `(?i)` at the very beginning of the pattern, `fold` is true
abbrev pub piece_at : Bool → List ℕ → Option (Piece × List ℕ)
piece_at fold [] = None
piece_at fold (b ∷ rest) =
    if b == 40 then group_at rest
    else if b == 41 then Some (closes, rest)
    else if b == 124 then Some (bar, rest)
    else if b == 94 then Some (anchor Start, rest)
    else if b == 36 then Some (anchor Final, rest)
    else count_or_atom_at fold b rest

-- the text is cut into these pieces
abbrev pub IsCut : Bool → List ℕ → List Piece → Type 0
IsCut fold text [] = text ≡ []
IsCut fold text (piece ∷ pieces) = (rest : List ℕ) × (piece_at fold text ≡ Some (piece, rest)) × IsCut fold rest pieces
