use Rattle.std.proofs.Common.{ap}
use Rattle.ip_cover.specs.declared.span.Span6.{Span6}
use Rattle.ip_cover.proofs.Sizes.{room_in}
use Rattle.ip_cover.proofs.range_spans.v4_span_at.Goals as goal

pub returns-clause-width : goal.returns-clause-width
returns-clause-width c =
    let last = ap (λ (s : Span6). s.last) c.span_around.ensures in
    let fits = room_in 32 c.args.bits c.power.result c.from.result c.requires c.power.ensures.power c.power.ensures.some (rw c.from.ensures c.ranges.base.fits) in
    rw last fits
