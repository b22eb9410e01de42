-- An automaton as plain data, its run on a text, and the language that it accepts (this project's own).
use Rattle.std.specs.Prelude.{ℕ, ◌<◌, ◌^◌, List, [], ◌∷◌, Bool, false, not, length, IsTrue, slice_index_or}
use Rattle.std.specs.List.{All}
use Rattle.byte_automata.specs.declared.state.State.{State}
use Rattle.byte_automata.specs.Row.{target, CoversBytes}

-- the start state's number, and the states, which are numbered from 0 on
pub record Automaton : Type 0 where
  pub start : ℕ
  pub states : List State

-- the state of a number
abbrev pub state_at : Automaton → ℕ → State
state_at automaton state = slice_index_or automaton.states state (record { accepting = false; edges = [] })

-- a text that ends in the state is accepted
abbrev pub accepting : Automaton → ℕ → Bool
accepting automaton state = (state_at automaton state).accepting

-- the state that a byte leads to from a state
abbrev pub next : Automaton → ℕ → ℕ → ℕ
next automaton state byte = target (state_at automaton state).edges byte

-- the state in which a text ends that is read from a state on
abbrev pub ends : Automaton → ℕ → List ℕ → ℕ
ends automaton state [] = state
ends automaton state (byte ∷ text) = ends automaton (next automaton state byte) text

-- the language of a state: whether a text that is read from it on ends in an accepting state
abbrev pub accepts_from : Automaton → ℕ → List ℕ → Bool
accepts_from automaton state text = accepting automaton (ends automaton state text)

-- the language of the automaton: whether a text that is read from the start on ends in an accepting state
abbrev pub accepts : Automaton → List ℕ → Bool
accepts automaton text = accepts_from automaton automaton.start text

-- the automaton accepts the text
abbrev pub Accepts : Automaton → List ℕ → Type 0
Accepts automaton text = IsTrue (accepts automaton text)

-- the state with the same edges that accepts where it didn't
abbrev pub flipped : State → State
flipped state = record { accepting = not state.accepting; edges = state.edges }

-- The edges of each state cover all bytes and lead to states of the automaton, the start is one of them, and their
-- numbers fit 32 bits.
pub record IsWhole (automaton : Automaton) : Type 0 where
  pub start : automaton.start < length automaton.states
  pub rows : All (λ state. CoversBytes state.edges) automaton.states
  pub targets : All (λ state. All (λ edge. edge.to < length automaton.states) state.edges) automaton.states
  pub few : length automaton.states < 2 ^ 32
