use Rattle.std.proofs.Common.{arith}
use Rattle.ip_cover.proofs.MoreSpans.{spans_more}
use Rattle.ip_cover.proofs.range_spans.v4_spans.Goals as goal

pub loop-range-preserved : goal.loop-range-preserved
loop-range-preserved c =
    spans_more c.args.ranges.now c.loop-range.range-index c.range-item.result c.v4_span.result c.loop-range.spans.items _ (omega arith) c.range-item.is
    c.v4_span.ensures.span c.loop-range.invariant.0 c.in_ok-push_some.ensures c.v4_span.ensures.width c.loop-range.invariant.1
