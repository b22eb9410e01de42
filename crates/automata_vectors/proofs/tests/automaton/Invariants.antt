use Rattle.std.proofs.Common.{◌≡◌, ◌<◌, length}
use Rattle.std.specs.List.{All}
use Rattle.byte_automata.specs.Row.{CoversBytes}
use Rattle.automata_vectors.proofs.tests.automaton.Given as goal

abbrev pub invariant-loop-i : goal.invariant-loop-i
invariant-loop-i g l =
    (length l.builder ≡ l.i) × All (λ s. CoversBytes s.edges) l.builder × All (λ s. All (λ e. e.to < l.count) s.edges) l.builder
