-- The states of an automaton in the order in which texts first reach them: breadth first, by ascending bytes (this
-- project's own).
use Rattle.std.specs.Prelude.{ℕ, ◌≡◌, ◌+◌, ◌<◌, ◌≤◌, ◌⊎◌, List, length, slice_index, slice_index_or}
use Rattle.std.specs.List.{All}
use Rattle.byte_automata.specs.declared.arrival.Arrival.{Arrival}
use Rattle.byte_automata.specs.Automaton.{Automaton, next}
use Rattle.byte_automata.specs.Members.{AreDifferent}

-- the one place and byte come before the other place and byte
abbrev pub IsEarlier : ℕ → ℕ → ℕ → ℕ → Type 0
IsEarlier place byte place' byte' = (place < place') ⊎ ((place ≡ place') × (byte < byte'))

-- the state stands among the first places of the order
abbrev pub StandsBelow : List ℕ → ℕ → ℕ → Type 0
StandsBelow order bound state = (place : ℕ) × (place < bound) × (slice_index order place ≡ state)

abbrev pub arrival_at : List Arrival → ℕ → Arrival
arrival_at arrivals place = slice_index_or arrivals place (record { from = 0; byte = 0 })

-- The state at the place after `place` is the one that the arrival leads to from an earlier place, and whatever an earlier
-- place and byte lead to stands before it.
pub record IsArrival (automaton : Automaton) (order : List ℕ) (arrival : Arrival) (place : ℕ) : Type 0 where
  pub earlier : arrival.from ≤ place
  pub leads : slice_index order (place + 1) ≡ next automaton (slice_index order arrival.from) arrival.byte
  pub first : (k c : ℕ) → IsEarlier k c arrival.from arrival.byte → StandsBelow order (place + 1) (next automaton (slice_index order k) c)

-- The states in the order of first reach, as far as the steps before this place and byte lead: the start comes first, each
-- other state has its arrival, and whatever an earlier place and byte lead to is there.
pub record IsExplored (automaton : Automaton) (order : List ℕ) (arrivals : List Arrival) (place byte : ℕ) : Type 0 where
  pub different : AreDifferent order
  pub start : slice_index order 0 ≡ automaton.start
  pub lengths : length order ≡ length arrivals + 1
  pub within : All (λ state. state < length automaton.states) order
  pub arrived : (j : ℕ) → j < length arrivals → IsArrival automaton order (arrival_at arrivals j) j
  pub closed : (k c : ℕ) → IsEarlier k c place byte → StandsBelow order (length order) (next automaton (slice_index order k) c)
