use Rattle.std.proofs.Common.{◌≡◌, take, map}
use Rattle.ip_cover.specs.Spans.{wide}
use Rattle.ip_cover.proofs.narrowing.narrowed.Given as goal

abbrev pub invariant-loop-span : goal.invariant-loop-span
invariant-loop-span l = map wide l.narrow.items ≡ take l.span-index l.spans
