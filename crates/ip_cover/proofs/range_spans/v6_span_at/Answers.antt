use Rattle.ip_cover.proofs.Sizes.{room_in}
use Rattle.ip_cover.proofs.range_spans.v6_span_at.Goals as goal

pub span_around-requires-clause-room : goal.span_around-requires-clause-room
span_around-requires-clause-room c = room_in 128 c.args.bits c.power.result c.args.base c.requires c.power.ensures.power c.power.ensures.some c.ranges.base.fits
