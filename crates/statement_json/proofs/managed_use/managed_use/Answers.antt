use Rattle.std.proofs.Common.{codes, subst, sym}
use Rattle.json_view.proofs.Steps.{on_value}
use Rattle.serde_json.specs.View.{view}
use Rattle.waf_model.specs.Gives.{Gives}
use Rattle.waf_model.specs.Json.{member_at, member_path}
use Rattle.waf_model.specs.declared.read_fault.ReadFault.TheVariants as read_faults
use Rattle.statement_json.specs.Statements.{statement_within}
use Rattle.statement_json.specs.Tops.{part_levels, managed_of}
use Rattle.statement_json.proofs.managed_use.managed_use.Goals as goal

pub returns-clause-reading : goal.returns-clause-reading
returns-clause-reading c =
    subst (Gives read_faults.Memory _ c.managed_of.result)
    (sym (on_value (λ found at. managed_of (statement_within part_levels c.args.sets.now c.args.encoding) (view c.args.v.now) c.args.seen.now found c.args.path.now at) (member_at (view c.args.v.now) (codes "ManagedRuleGroupStatement") c.args.path.now) (view c.in_ok-found.found.now) (member_path c.args.path.now (codes "ManagedRuleGroupStatement")) c.in_ok-at.at c.in_ok-found.ensures c.in_ok-at.ensures))
    c.managed_of.ensures.reading
