use Rattle.std.proofs.Common.{◌≡◌, drop, flat_map}
use Rattle.label_scope.specs.Vocabulary.{with_keys}
use Rattle.waf_model.specs.LabelAgreement.{label_tests_of_group}
use Rattle.label_scope.proofs.label_keys.add_groups.Given as goal

-- those so far with those of the rest are all
abbrev pub invariant-loop-group : goal.invariant-loop-group
invariant-loop-group l =
    with_keys l.keys (flat_map label_tests_of_group (drop l.group-index l.groups)) ≡ with_keys l.initial.keys (flat_map label_tests_of_group l.groups)
