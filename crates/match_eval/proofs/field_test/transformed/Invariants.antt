use Rattle.std.proofs.Common.{◌≡◌, map, take}
use Rattle.waf_model.specs.Transformed.{transform_all}
use Rattle.match_eval.proofs.field_test.transformed.Given as goal

-- the texts so far, each after the transformations
abbrev pub invariant-loop-text : goal.invariant-loop-text
invariant-loop-text l = l.all ≡ map (transform_all l.transforms) (take l.text-index l.texts)
