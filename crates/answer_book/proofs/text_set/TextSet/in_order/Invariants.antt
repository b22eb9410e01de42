use Rattle.std.proofs.Common.{◌≡◌, ◌++◌, map}
use Rattle.answer_book.proofs.text_set.TextSet.in_order.Given as goal

-- those so far with those that are left are all
abbrev pub invariant-loop-text : goal.invariant-loop-text
invariant-loop-text l = l.texts ++ map (λ t. t.items) l.text-iterator ≡ l.self
