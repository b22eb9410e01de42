-- The lists of the states from which bytes lead to a state, as they are filled (this project's own).
use Rattle.std.specs.Prelude.{ℕ, ◌≡◌, ◌<◌, ◌⊎◌, List, length, slice_index_or}
use Rattle.std.specs.List.{Contains}
use Rattle.byte_automata.specs.declared.edge.Edge.{Edge}
use Rattle.byte_automata.specs.Splitting.{list_at}

abbrev pub edge_at : List Edge → ℕ → Edge
edge_at edges k = slice_index_or edges k (record { last = 0; to = 0 })

-- the state was added to the lists that the first `known` edges lead to
pub record AddsSource (edges : List Edge) (known state : ℕ) (before after : List (List ℕ)) : Type 0 where
  pub lengths : length after ≡ length before
  pub kept : (list from : ℕ) → Contains (list_at before list) from → Contains (list_at after list) from
  pub added : (k : ℕ) → k < known → Contains (list_at after (edge_at edges k).to) state
  pub only : (list from : ℕ) → Contains (list_at after list) from → Contains (list_at before list) from ⊎ ((from ≡ state) × (k : ℕ) × (k < known) × ((edge_at edges k).to ≡ list))
