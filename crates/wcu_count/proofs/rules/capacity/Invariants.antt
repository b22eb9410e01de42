use Rattle.std.proofs.Common.{drop}
use Rattle.waf_model.specs.Cost.{rule_cost}
use Rattle.waf_model.specs.StatementCount.{top_count}
use Rattle.wcu_count.proofs.Totals.{Total}
use Rattle.wcu_count.proofs.rules.capacity.Given as goal

-- the total is that of the rules before the rest
abbrev pub invariant-loop-rule : goal.invariant-loop-rule
invariant-loop-rule l =
    Total (λ top. rule_cost l.bundle top.body) (λ top. top_count top.body) l.bundle.acl.rules (drop l.rule-index l.bundle.acl.rules) l.total
