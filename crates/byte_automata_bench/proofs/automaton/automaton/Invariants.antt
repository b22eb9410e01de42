use Rattle.std.proofs.Common.{◌≡◌, ◌<◌, length}
use Rattle.std.specs.List.{All}
use Rattle.byte_automata.specs.Row.{CoversBytes}
use Rattle.byte_automata_bench.proofs.automaton.automaton.Given as goal

abbrev pub invariant-loop-state : goal.invariant-loop-state
invariant-loop-state l =
    (length l.builder ≡ l.state) × All (λ s. CoversBytes s.edges) l.builder × All (λ s. All (λ e. e.to < l.count) s.edges) l.builder
