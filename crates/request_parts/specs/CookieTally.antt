-- For private clauses: the cookies of the value of a `cookie` header, counted byte by byte.
use Rattle.std.specs.Prelude.{ℕ, ◌+◌, List, [], ◌∷◌, Bool, true, false, ◌==◌, if◌then◌else◌}

-- a byte more of a cookie that was begun
abbrev pub byte_more : ℕ × ℕ → ℕ × ℕ
byte_more counts = (counts.0, counts.1 + 1)

-- a byte that begins a cookie
abbrev pub cookie_more : ℕ × ℕ → ℕ × ℕ
cookie_more counts = (counts.0 + 1, counts.1 + 1)

-- how many cookies begin in the text, and how many bytes of cookies it has, by whether it stands within a cookie
abbrev pub tally : Bool → List ℕ → ℕ × ℕ
tally within [] = (0, 0)
tally within (b ∷ bytes) =
    if b == 59 then tally false bytes
    else if within then byte_more (tally true bytes)
    else if b == 32 then tally false bytes
    else cookie_more (tally true bytes)
