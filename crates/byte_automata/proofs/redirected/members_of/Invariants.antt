use Rattle.std.proofs.Common.{◌≡◌, ℕ, ◌<◌, length, slice_index}
use Rattle.byte_automata.proofs.redirected.members_of.Given as goal

abbrev pub invariant-loop-i : goal.invariant-loop-i
invariant-loop-i l =
    (length l.members.items ≡ l.count) × ((state : ℕ) → state < l.i →
    (slice_index l.members.items (slice_index l.classes state) < l.i)
    × (slice_index l.classes (slice_index l.members.items (slice_index l.classes state)) ≡ slice_index l.classes state))
