use Rattle.std.proofs.Common.{◌≡◌, take}
use Rattle.waf_model.specs.TransformPaths.{kept}
use Rattle.text_transform.specs.Segments.{texts}
use Rattle.text_transform.proofs.paths.kept_of.Given as goal

-- those of the segments so far are kept
abbrev pub invariant-loop-segment : goal.invariant-loop-segment
invariant-loop-segment l = texts l.left.items ≡ kept (texts (take l.segment-index l.segments))
