use Rattle.std.proofs.Common.{sym, ap, ◌∙◌, arith}
use Rattle.text_transform.specs.Segments.{texts}
use Rattle.text_transform.proofs.Kept.{kept_none, kept_step}
use Rattle.text_transform.proofs.paths.kept_of.Goals as goal

pub loop-segment-init : goal.loop-segment-init
loop-segment-init c = ap texts c.new-left.ensures.items ∙ sym kept_none

pub loop-segment-preserved : goal.loop-segment-preserved
loop-segment-preserved c =
    kept_step c.args.segments.now c.loop-segment.segment-index _ _ _ (omega arith) c.loop-segment.invariant c.in_ok-keep.ensures
