use Rattle.std.proofs.Common.{◌+◌, drop, subst, sym, ◌∙◌, ap}
use Rattle.waf_model.specs.Cost.{rule_cost, plus}
use Rattle.waf_model.specs.StatementCount.{top_count}
use Rattle.waf_model.specs.declared.outcome.Capacity.{Capacity}
use Rattle.wcu_count.specs.Bounds.{IsWithin}
use Rattle.wcu_count.proofs.Totals.{Total, total_next}
use Rattle.wcu_count.proofs.rules.capacity.Goals as goal

pub loop-rule-preserved : goal.loop-rule-preserved
loop-rule-preserved c =
    let bundle = c.args.bundle.now in
    let rules = bundle.acl.rules in
    let cost = c.cost_of_rule.ensures.cost in
    let within : IsWithin (rule_cost bundle c.rule-item.result.body) (top_count c.rule-item.result.body) =
    subst (λ (k : Capacity). IsWithin k (top_count c.rule-item.result.body)) cost c.cost_of_rule.ensures.bound in
    subst (λ (k : Capacity). Total (λ top. rule_cost bundle top.body) (λ top. top_count top.body) rules (drop (c.loop-rule.rule-index + 1) rules) k)
    (sym (c.plus-total.ensures ∙ ap (plus c.loop-rule.total) cost))
    (total_next (λ top. rule_cost bundle top.body) (λ top. top_count top.body) rules c.loop-rule.rule-index c.rule-item.result c.loop-rule.total
    (rw c.as_slice-rule-items.ensures at c.loop-rule-test.true) (rw c.as_slice-rule-items.ensures at c.rule-item.is) c.loop-rule.invariant within)
