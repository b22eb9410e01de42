use Rattle.std.proofs.Common.{◌≡◌, ◌++◌, drop}
use Rattle.byte_automata.specs.Key.{edge_numbers}
use Rattle.byte_automata.proofs.key.push_state_numbers.Given as goal

abbrev pub invariant-loop-edge : goal.invariant-loop-edge
invariant-loop-edge l = l.key ++ edge_numbers (drop l.edge-index l.edges) ≡ l.initial.key ++ edge_numbers l.edges
