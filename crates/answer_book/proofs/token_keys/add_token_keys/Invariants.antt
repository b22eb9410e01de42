use Rattle.std.proofs.Common.{◌≡◌, drop}
use Rattle.std.specs.List.{flat_map}
use Rattle.answer_book.specs.Keys.{put_all, token_keys, token_keys_of_top, token_order}
use Rattle.answer_book.proofs.token_keys.add_token_keys.Given as goal

-- those so far with those of the rest are all
abbrev pub invariant-loop-rule : goal.invariant-loop-rule
invariant-loop-rule l =
    put_all token_order l.found.keys (flat_map (λ top. token_keys_of_top l.bundle top.body) (drop l.rule-index l.bundle.acl.rules)) ≡ put_all token_order l.initial.found.keys (token_keys l.bundle)
