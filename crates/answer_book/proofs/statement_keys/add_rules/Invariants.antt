use Rattle.std.proofs.Common.{◌≡◌, drop}
use Rattle.std.specs.List.{flat_map}
use Rattle.answer_book.specs.Keys.{keys_in, put_all, text_order}
use Rattle.answer_book.proofs.statement_keys.add_rules.Given as goal

-- those so far with those of the rest are all
abbrev pub invariant-loop-rule : goal.invariant-loop-rule
invariant-loop-rule l =
    put_all text_order l.found (flat_map (λ rule. keys_in rule.statement) (drop l.rule-index l.rules)) ≡ put_all text_order l.initial.found (flat_map (λ rule. keys_in rule.statement) l.rules)
