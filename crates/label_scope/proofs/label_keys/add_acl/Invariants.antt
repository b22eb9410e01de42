use Rattle.std.proofs.Common.{◌≡◌, drop, flat_map}
use Rattle.label_scope.specs.Vocabulary.{with_keys}
use Rattle.waf_model.specs.LabelAgreement.{label_tests_of_top}
use Rattle.label_scope.proofs.label_keys.add_acl.Given as goal

-- those so far with those of the rest are all
abbrev pub invariant-loop-rule : goal.invariant-loop-rule
invariant-loop-rule l =
    with_keys l.keys (flat_map (λ top. label_tests_of_top l.acl.namespace top.body) (drop l.rule-index l.acl.rules))
    ≡ with_keys l.initial.keys (flat_map (λ top. label_tests_of_top l.acl.namespace top.body) l.acl.rules)
