use Rattle.std.proofs.Common.{◌≡◌, ℕ, length}
use Rattle.byte_automata.specs.Splitting.{list_at}
use Rattle.byte_automata.proofs.lists.Lists.grow.Given as goal

abbrev pub invariant-loop-list : goal.invariant-loop-list
invariant-loop-list l = (length l.self-inside.lists.items ≡ l._list) × ((list : ℕ) → list_at l.self-inside.lists.items list ≡ list_at l.initial.self-inside.lists.items list)
