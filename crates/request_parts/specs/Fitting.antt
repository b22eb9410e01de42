-- For private clauses: the entries that are inspected, one by one.
use Rattle.std.specs.Prelude.{ℕ, ◌-◌, List, [], ◌∷◌, ◌&&◌, nat_lt, nat_le, if◌then◌else◌}

-- the entries from the front on, as far as they are at most so many and have at most so many bytes
abbrev pub fitting : {X : Type 0} → (X → ℕ) → ℕ → ℕ → List X → List X
fitting size count room [] = []
fitting size count room (x ∷ xs) = if nat_lt 0 count && nat_le (size x) room then x ∷ fitting size (count - 1) (room - size x) xs else []
