-- Transformations that take a front of the text, as an escape or a comment, and put its image in its place.
use Rattle.std.specs.Prelude.{ℕ, zero, suc, ◌-◌, List, [], ◌∷◌, ◌++◌, Option, Some, None}

-- a front of a text that is taken: what it becomes, and how many bytes it has
pub record Taken : Type 0 where
  pub image : List ℕ
  pub size : ℕ

-- where nothing is taken, the first byte stays
abbrev pub taken_or_first : ℕ → Option Taken → Taken
taken_or_first b None = record { image = b ∷ []; size = 1 }
taken_or_first b (Some front) = front

-- The scan goes from left to right over the original bytes: where a front is taken its image follows, else the byte
-- stays, and the scan goes on behind it; so many of the first bytes were taken before (this project's own).
unfoldable pub scanned : (List ℕ → Option Taken) → ℕ → List ℕ → List ℕ
scanned front passed [] = []
scanned front (suc passed) (b ∷ rest) = scanned front passed rest
scanned front zero (b ∷ rest) =
    let taken : Taken = taken_or_first b (front (b ∷ rest)) in taken.image ++ scanned front (taken.size - 1) rest
