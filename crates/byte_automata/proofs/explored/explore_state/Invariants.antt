use Rattle.std.proofs.Common.{◌≡◌, length, ◌≤◌, ◌<◌, get_or}
use Rattle.byte_automata.specs.Automaton.{state_at}
use Rattle.byte_automata.specs.FirstReach.{IsExplored}
use Rattle.byte_automata.proofs.Rows.{Rest}
use Rattle.byte_automata.proofs.explored.explore_state.Given as goal

abbrev pub invariant-loop-edge : goal.invariant-loop-edge
invariant-loop-edge l =
    (length l.initial.order ≤ length l.order) × IsExplored l.dfa l.order l.arrivals.items l.place l.low × Rest l.edges l.edge-index l.low × (l.place < length l.order) × (l.edges ≡ (state_at l.dfa (get_or l.order l.place 0)).edges)
