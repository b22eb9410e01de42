use Rattle.std.proofs.Common.{rules}
use Rattle.std.proofs.lemmas.List.Sorted.{IsNonDecreasingBy-from_sort_by_key}
use Rattle.std.proofs.lemmas.Result.{IfOk-weaker}
use Rattle.ip_cover.specs.declared.span.Span6.{Span6}
use Rattle.ip_cover.proofs.MergedSpans.{sorted_apart, sorted_same, sorted_below}
use Rattle.ip_cover.proofs.merging.merged.Goals as goal

pub returns-clause-apart : goal.returns-clause-apart
returns-clause-apart c =
    IfOk-weaker c.merge_sorted.result _ _ (λ merged is. sorted_apart c.as_slice.result.now c.args.spans.items c.sort_unstable_by_key.new.self.items merged.items c.sort_unstable_by_key.ensures.permutation c.as_slice.ensures.value is c.requires) c.merge_sorted.ensures

pub returns-clause-same : goal.returns-clause-same
returns-clause-same c =
    let up = IsNonDecreasingBy-from_sort_by_key (λ (s : Span6). s.first) _ c.sort_unstable_by_key.ensures.sorted (λ a r q k. search rules) in
    IfOk-weaker c.merge_sorted.result _ _ (λ merged is. sorted_same c.as_slice.result.now c.args.spans.items c.sort_unstable_by_key.new.self.items merged.items c.sort_unstable_by_key.ensures.permutation c.as_slice.ensures.value is up) c.merge_sorted.ensures

pub returns-clause-below : goal.returns-clause-below
returns-clause-below c bound all =
    IfOk-weaker c.merge_sorted.result _ _ (λ merged is. sorted_below c.as_slice.result.now c.args.spans.items c.sort_unstable_by_key.new.self.items merged.items c.sort_unstable_by_key.ensures.permutation c.as_slice.ensures.value is bound all) c.merge_sorted.ensures
