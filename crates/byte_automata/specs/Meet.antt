-- The pairs of states that `meet` and `without` make their nodes of (this project's own).
use Rattle.std.specs.Prelude.{ℕ, ◌≡◌, List, Bool, true, false, not}
use Rattle.byte_automata.specs.declared.state_pair.StatePair.{StatePair}
use Rattle.byte_automata.specs.Automaton.{Automaton, ends, next}

-- one text ends in the one state and in the other
abbrev pub IsReachablePair : Automaton → Automaton → StatePair → Type 0
IsReachablePair left right pair = (text : List ℕ) × (ends left left.start text ≡ pair.left) × (ends right right.start text ≡ pair.right)

-- the pair of both start states
abbrev pub start_pair : Automaton → Automaton → StatePair
start_pair left right = record { left = left.start; right = right.start }

-- the pair that a byte leads to from a pair
abbrev pub next_pair : Automaton → Automaton → StatePair → ℕ → StatePair
next_pair left right pair byte = record { left = next left pair.left byte; right = next right pair.right byte }

-- what is accepted is kept, or what isn't
abbrev pub is_kept : Bool → Bool → Bool
is_kept true accepted = accepted
is_kept false accepted = not accepted
