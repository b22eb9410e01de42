use Rattle.std.proofs.Common.{◌≡◌, ℕ, ◌<◌, false, slice_index}
use Rattle.byte_automata.specs.Automaton.{accepting}
use Rattle.byte_automata.proofs.shortest.first_accepting.Given as goal

abbrev pub invariant-loop-place : goal.invariant-loop-place
invariant-loop-place l = (place : ℕ) → place < l.place → accepting l.dfa (slice_index l.order place) ≡ false
