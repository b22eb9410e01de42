use Rattle.std.proofs.Common.{◌≡◌, ◌<◌, ◌^◌, take, All}
use Rattle.std.specs.List.{filter_map}
use Rattle.ip_cover.specs.Spans.{v4_span_of}
use Rattle.ip_cover.specs.declared.span.Span6.{Span6}
use Rattle.ip_cover.proofs.range_spans.v4_spans.Given as goal

-- the spans so far
abbrev pub invariant-loop-range : goal.invariant-loop-range
invariant-loop-range l = (l.spans.items ≡ filter_map v4_span_of (take l.range-index l.ranges)) × All (λ (s : Span6). s.last < 2 ^ 32) l.spans.items
