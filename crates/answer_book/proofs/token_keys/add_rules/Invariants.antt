use Rattle.std.proofs.Common.{◌≡◌, drop}
use Rattle.std.specs.List.{flat_map}
use Rattle.waf_model.specs.EffectiveActions.{effective_action}
use Rattle.answer_book.specs.Keys.{put_all, token_keys_of, token_order}
use Rattle.answer_book.proofs.token_keys.add_rules.Given as goal

-- those so far with those of the rest are all
abbrev pub invariant-loop-rule : goal.invariant-loop-rule
invariant-loop-rule l =
    put_all token_order l.found.keys (flat_map (λ rule. token_keys_of l.acl (effective_action l.use_of rule) rule) (drop l.rule-index l.rules))
    ≡ put_all token_order l.initial.found.keys (flat_map (λ rule. token_keys_of l.acl (effective_action l.use_of rule) rule) l.rules)
