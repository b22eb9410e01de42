use Rattle.std.proofs.Common.{◌≤◌, ◌^◌, List, sym, ap, ◌∙◌, subst}
use Rattle.std.proofs.lemmas.Result.{IfOk-weaker}
use Rattle.std.specs.List.{list_any}
use Rattle.std.specs.Prelude.{All}
use Rattle.ip_cover.specs.Spans.{AreApart6, is_in6}
use Rattle.ip_cover.specs.declared.span.Span6.{Span6}
use Rattle.ip_cover.proofs.Covering.{v4_filled, narrow_apart, narrow_fits, wide_any}
use Rattle.ip_cover.proofs.look_up.v4_cover.Goals as goal

pub merged-requires : goal.merged-requires
merged-requires c = subst (λ (x : List Span6). All (λ (s : Span6). s.first ≤ s.last) x) (sym c.in_ok-spans.ensures.spans) (v4_filled c.args.ranges.now)

pub narrowed-requires : goal.narrowed-requires
narrowed-requires c = narrow_fits c.as_slice.result.now c.in_ok-merged.merged.items c.as_slice.ensures.value c.in_ok-merged.ensures.apart (c.in_ok-merged.ensures.below (2 ^ 32) c.in_ok-spans.ensures.width)

pub returns-clause-apart : goal.returns-clause-apart
returns-clause-apart c =
    IfOk-weaker c.narrowed.result _ _ (λ narrow is. narrow_apart narrow.items (subst (λ (x : List Span6). AreApart6 x) (sym (is ∙ c.as_slice.ensures.value)) c.in_ok-merged.ensures.apart)) c.narrowed.ensures

pub returns-clause-same : goal.returns-clause-same
returns-clause-same c =
    IfOk-weaker c.narrowed.result _ _ (λ narrow is n. sym (wide_any n narrow.items)
    ∙ ap (λ (x : List Span6). list_any (is_in6 n) x) (is ∙ c.as_slice.ensures.value)
    ∙ c.in_ok-merged.ensures.same n
    ∙ ap (λ (x : List Span6). list_any (is_in6 n) x) c.in_ok-spans.ensures.spans) c.narrowed.ensures
