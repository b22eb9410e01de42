use Rattle.std.proofs.Common.{arith}
use Rattle.text_transform.proofs.Kept.{joined}
use Rattle.text_transform.proofs.paths.push_joined.Goals as goal

pub returns : goal.returns
returns c =
    joined c.args.text.now.items _ _ c.in-Some.first.now c.in-Some.others.now c.args.segments.now c.loop-segment.segment-index
    c.in-Some.ensures.cases.0 c.in_ok-extend_from_slice.ensures.items c.loop-segment.invariant (omega arith)
