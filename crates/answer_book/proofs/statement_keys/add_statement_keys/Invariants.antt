use Rattle.std.proofs.Common.{◌≡◌, drop}
use Rattle.std.specs.List.{flat_map}
use Rattle.answer_book.specs.Keys.{put_all, statement_keys, statement_keys_of_top, text_order}
use Rattle.answer_book.proofs.statement_keys.add_statement_keys.Given as goal

-- those so far with those of the rest are all
abbrev pub invariant-loop-rule : goal.invariant-loop-rule
invariant-loop-rule l =
    put_all text_order l.found (flat_map (λ top. statement_keys_of_top l.bundle top.body) (drop l.rule-index l.bundle.acl.rules)) ≡ put_all text_order l.initial.found (statement_keys l.bundle)
