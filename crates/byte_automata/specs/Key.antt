-- An automaton as a list of numbers, which tells it from every other (this project's own).
use Rattle.std.specs.Prelude.{ℕ, List, [], ◌∷◌, Bool, true, false, length}
use Rattle.std.specs.List.{flat_map}
use Rattle.byte_automata.specs.declared.edge.Edge.{Edge}
use Rattle.byte_automata.specs.declared.state.State.{State}
use Rattle.byte_automata.specs.Automaton.{Automaton}

abbrev pub bit : Bool → ℕ
bit true = 1
bit false = 0

-- for each edge the last byte and the state that it leads to
abbrev pub edge_numbers : List Edge → List ℕ
edge_numbers [] = []
edge_numbers (edge ∷ edges) = edge.last ∷ edge.to ∷ edge_numbers edges

-- whether the state accepts, how many edges it has, and the edges
abbrev pub state_numbers : State → List ℕ
state_numbers state = bit state.accepting ∷ length state.edges ∷ edge_numbers state.edges

-- the start, and the states one after another
abbrev pub flattened : Automaton → List ℕ
flattened automaton = automaton.start ∷ flat_map state_numbers automaton.states
