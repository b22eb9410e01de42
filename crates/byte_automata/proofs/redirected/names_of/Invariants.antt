use Rattle.std.proofs.Common.{◌≡◌, ℕ, ◌<◌, length, slice_index}
use Rattle.byte_automata.proofs.redirected.names_of.Given as goal

abbrev pub invariant-loop-i : goal.invariant-loop-i
invariant-loop-i l = (length l.names.items ≡ l.i) × ((state : ℕ) → state < l.i → slice_index l.names.items state ≡ slice_index l.members.items (slice_index l.classes state))
