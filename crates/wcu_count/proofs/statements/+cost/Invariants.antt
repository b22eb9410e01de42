use Rattle.std.proofs.Common.{IsTrue, map, drop}
use Rattle.std.specs.List.{list_all}
use Rattle.waf_model.specs.Cost.{statement_cost, is_limited}
use Rattle.waf_model.specs.StatementCount.{statement_count}
use Rattle.wcu_count.proofs.Totals.{Total}
use Rattle.wcu_count.proofs.statements.+cost.Given as goal

-- the rest is within the limits, and the total is that of those before it
abbrev pub invariant-cost_of_all-loop-statement : goal.invariant-cost_of_all-loop-statement
invariant-cost_of_all-loop-statement l = record {
  limited : IsTrue (list_all (λ limited. limited) (map is_limited (drop l.statement-index l.statements)));
  total : Total statement_cost statement_count l.statements (drop l.statement-index l.statements) l.total;
}
