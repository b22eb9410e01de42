use Rattle.std.proofs.Common.{ℕ, List, map, ap, ◌∙◌}
use Rattle.waf_model.specs.Passes.{Passes}
use Rattle.waf_model.specs.Shown.{shown}
use Rattle.waf_model.specs.Transformed.{transform_all}
use Rattle.match_eval.specs.Asked.{test_of}
use Rattle.match_eval.proofs.Searching.{tells_of_images}
use Rattle.match_eval.proofs.field_test.some_shown_passes.Goals as goal

pub returns : goal.returns
returns c = tells_of_images (transform_all c.args.transforms.now) (Passes (test_of c.args.asked.now)) (shown c.args.field.now c.args.request.now c.args.body_limit)
    c.as_slice-2.result.now c.in_ok-passed.passed
    (c.as_slice-2.ensures ∙ c.in_ok-texts.ensures
    ∙ ap (λ (texts : List (List ℕ)). map (transform_all c.args.transforms.now) texts) (c.as_slice.ensures ∙ c.in_ok-shown.ensures))
    c.in_ok-passed.ensures
