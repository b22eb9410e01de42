use Rattle.std.proofs.Common.{ap, sym}
use Rattle.std.proofs.lemmas.List.Folds.{flat_map-map}
use Rattle.label_scope.specs.Vocabulary.{with_keys}
use Rattle.waf_model.specs.LabelAgreement.{label_tests_in}
use Rattle.label_scope.proofs.label_keys.+keys.Goals as goal

pub add_parts-loop-part-init : goal.add_parts-loop-part-init
add_parts-loop-part-init t c =
    ap (with_keys c.args.keys.now) (sym (flat_map-map (λ part. part) (label_tests_in c.args.namespace.now) c.args.parts.now))
