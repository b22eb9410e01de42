use Rattle.std.proofs.Common.{◌≡◌, drop, flat_map}
use Rattle.label_scope.specs.Vocabulary.{with_keys}
use Rattle.waf_model.specs.LabelAgreement.{label_tests_in, label_tests_of_group}
use Rattle.label_scope.proofs.label_keys.add_group.Given as goal

-- those so far with those of the rest are all
abbrev pub invariant-loop-rule : goal.invariant-loop-rule
invariant-loop-rule l =
    with_keys l.keys (flat_map (λ rule. label_tests_in l.group.namespace rule.statement) (drop l.rule-index l.group.rules))
    ≡ with_keys l.initial.keys (label_tests_of_group l.group)
