use Rattle.std.proofs.Common.{◌≡◌, drop}
use Rattle.std.specs.List.{flat_map}
use Rattle.answer_book.specs.Keys.{group_keys, group_keys_of_top, put_all, text_order}
use Rattle.answer_book.proofs.keys.add_group_keys.Given as goal

-- those so far with those of the rest are all
abbrev pub invariant-loop-rule : goal.invariant-loop-rule
invariant-loop-rule l =
    put_all text_order l.found (flat_map (λ top. group_keys_of_top top.body) (drop l.rule-index l.bundle.acl.rules)) ≡ put_all text_order l.initial.found (group_keys l.bundle)
