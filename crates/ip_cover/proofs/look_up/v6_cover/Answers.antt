use Rattle.std.proofs.Common.{◌≤◌, List, sym, subst}
use Rattle.std.specs.Prelude.{All}
use Rattle.ip_cover.specs.declared.span.Span6.{Span6}
use Rattle.ip_cover.proofs.Covering.{v6_filled}
use Rattle.ip_cover.proofs.look_up.v6_cover.Goals as goal

pub merged-requires : goal.merged-requires
merged-requires c = subst (λ (x : List Span6). All (λ (s : Span6). s.first ≤ s.last) x) (sym c.in_ok-spans.ensures) (v6_filled c.args.ranges.now)
