use Rattle.std.proofs.Common.{◌≡◌, drop, flat_map, map}
use Rattle.label_scope.specs.Vocabulary.{with_keys}
use Rattle.waf_model.specs.LabelAgreement.{label_tests_in}
use Rattle.label_scope.proofs.label_keys.+keys.Given as goal

-- those so far with those of the rest are all
abbrev pub invariant-add_parts-loop-part : goal.invariant-add_parts-loop-part
invariant-add_parts-loop-part l =
    with_keys l.keys (flat_map (label_tests_in l.namespace) (drop l.part-index l.parts))
    ≡ with_keys l.initial.keys (flat_map (λ part. part) (map (label_tests_in l.namespace) l.parts))
