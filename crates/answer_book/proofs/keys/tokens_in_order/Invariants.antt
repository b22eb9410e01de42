use Rattle.std.proofs.Common.{◌≡◌, ◌++◌}
use Rattle.answer_book.proofs.keys.tokens_in_order.Given as goal

-- those so far with those that are left are all
abbrev pub invariant-loop-key : goal.invariant-loop-key
invariant-loop-key l = l.keys ++ l.key-iterator ≡ l.found.keys
