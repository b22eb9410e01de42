use Rattle.std.proofs.Common.{◌≡◌, ℕ, ◌<◌, slice_index, if◌then◌else◌}
use Rattle.byte_automata.specs.Automaton.{accepting}
use Rattle.byte_automata.specs.Splitting.{AreParts}
use Rattle.byte_automata.proofs.parts.by_acceptance.Given as goal

abbrev pub invariant-loop-state : goal.invariant-loop-state
invariant-loop-state l = AreParts l.state 2 l.of.items l.members l.sizes × ((state : ℕ) → state < l.state → slice_index l.of.items state ≡ (if accepting l.dfa state then 1 else 0))
