-- Texts that are cut at a byte.
use Rattle.std.specs.Prelude.{ℕ, List, [], ◌∷◌, length, filter, map, drop, not, nat_lt, ◌==◌, if◌then◌else◌, Option, Some, None}
use Rattle.std.specs.List.{before_first, after_first, position_or_len, prefix_len}

-- what stands before the first such byte and what stands after it, or none where there is no such byte
abbrev pub split_once : ℕ → List ℕ → Option (List ℕ × List ℕ)
split_once byte text = if nat_lt (position_or_len (λ b. b == byte) text) (length text)
    then Some (before_first (λ b. b == byte) text, after_first (λ b. b == byte) text) else None

-- what stands before the first such byte, or all where there is none
abbrev pub first_piece : ℕ → List ℕ → List ℕ
first_piece byte text = before_first (λ b. b == byte) text

-- a byte more at the front of the first piece
abbrev pub begin_with : ℕ → List (List ℕ) → List (List ℕ)
begin_with byte [] = (byte ∷ []) ∷ []
begin_with byte (piece ∷ pieces) = (byte ∷ piece) ∷ pieces

-- the one list of texts without the byte that gives the text when it is joined with the byte
abbrev pub cut : ℕ → List ℕ → List (List ℕ)
cut byte [] = [] ∷ []
cut byte (b ∷ bytes) = if b == byte then [] ∷ cut byte bytes else begin_with b (cut byte bytes)

-- the text without the spaces that it begins with
abbrev pub without_spaces : List ℕ → List ℕ
without_spaces text = drop (prefix_len (λ b. b == 32) text) text

-- the cookies of the value of a `cookie` header: the pieces between `;`, without their leading spaces, that aren't
-- empty then (RFC 6265, 4.2; what is kept is this project's own)
abbrev pub cookies_of : List ℕ → List (List ℕ)
cookies_of value = filter (λ piece. not (length piece == 0)) (map without_spaces (cut 59 value))
