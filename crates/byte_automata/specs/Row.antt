-- The edges of one state as a list: where a byte leads, and that they cover all bytes (this project's own).
use Rattle.std.specs.Prelude.{ℕ, ◌≡◌, ◌≢◌, ◌+◌, ◌<◌, ◌≤◌, List, [], ◌∷◌, length, nat_eq, nat_le, if◌then◌else◌}
use Rattle.std.specs.List.{AllWithin}
use Rattle.byte_automata.specs.declared.edge.Edge.{Edge}

-- the state that a byte leads to along the first edge whose last byte is no less; where there is none it is the one
-- before the edges
abbrev pub target_after : ℕ → List Edge → ℕ → ℕ
target_after before [] byte = before
target_after before (edge ∷ edges) byte = if nat_le byte edge.last then edge.to else target_after edge.to edges byte

-- the state that a byte leads to: along the first edge whose last byte is no less, or along the last edge
abbrev pub target : List Edge → ℕ → ℕ
target edges byte = target_after 0 edges byte

-- the edges cover the bytes from `low` on up to 255 without a gap, each edge one byte or more
abbrev pub CoversFrom : ℕ → List Edge → Type 0
CoversFrom low [] = low ≡ 256
CoversFrom low (edge ∷ edges) = (low ≤ edge.last) × CoversFrom (edge.last + 1) edges

-- the edges cover all bytes
abbrev pub CoversBytes : List Edge → Type 0
CoversBytes edges = CoversFrom 0 edges

-- the edge at the place is the first whose last byte is no less than the byte
abbrev pub IsEdgeOf : List Edge → ℕ → ℕ → Type 0
IsEdgeOf edges byte place =
    (place < length edges) × AllWithin (λ edge. edge.last < byte) edges 0 place × AllWithin (λ edge. byte ≤ edge.last) edges place (length edges)

-- no two neighbouring edges lead to one state
abbrev pub IsJoined : List Edge → Type 0
IsJoined [] = Unit {0}
IsJoined (edge ∷ []) = Unit {0}
IsJoined (edge ∷ after ∷ edges) = (edge.to ≢ after.to) × IsJoined (after ∷ edges)

-- the edges with each target renamed
abbrev pub renamed : (ℕ → ℕ) → List Edge → List Edge
renamed name [] = []
renamed name (e ∷ es) = (record { last = e.last; to = name e.to }) ∷ renamed name es

-- the edges with neighbours that lead to one state joined
abbrev pub joined : List Edge → List Edge
joined [] = []
joined (e ∷ []) = e ∷ []
joined (e ∷ x ∷ xs) = if nat_eq e.to x.to then joined (x ∷ xs) else e ∷ joined (x ∷ xs)
