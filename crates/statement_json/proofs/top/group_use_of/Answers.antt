use Rattle.std.proofs.Common.{codes, subst, sym}
use Rattle.json_view.proofs.Steps.{on_value}
use Rattle.serde_json.specs.View.{view}
use Rattle.waf_model.specs.Gives.{Gives}
use Rattle.waf_model.specs.Json.{member_at, member_path}
use Rattle.waf_model.specs.declared.read_fault.ReadFault.TheVariants as read_faults
use Rattle.statement_json.specs.Groups.{group_use_of}
use Rattle.statement_json.specs.Tops.{group_use_at}
use Rattle.statement_json.proofs.top.group_use_of.Goals as goal

pub returns : goal.returns
unfolding group_use_at
returns c =
    subst (Gives read_faults.Memory (λ group. group) c.group_use.result)
    (sym (on_value group_use_of (member_at (view c.args.v.now) (codes "RuleGroupReferenceStatement") c.args.path.now) (view c.in_ok-found.found.now) (member_path c.args.path.now (codes "RuleGroupReferenceStatement")) c.in_ok-at.at c.in_ok-found.ensures c.in_ok-at.ensures))
    c.group_use.ensures
