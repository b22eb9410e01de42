use Rattle.std.proofs.Common.{codes, option_map, subst, sym}
use Rattle.json_view.proofs.Steps.{on_value}
use Rattle.serde_json.specs.View.{view}
use Rattle.waf_model.specs.Gives.{Gives}
use Rattle.waf_model.specs.Json.{member_path, optional_at}
use Rattle.waf_model.specs.declared.read_fault.ReadFault.TheVariants as read_faults
use Rattle.statement_json.specs.References.{optional_forwarded, forwarded_at}
use Rattle.statement_json.proofs.references.forwarded.Goals as goal

pub returns : goal.returns
unfolding forwarded_at
returns c =
    subst (Gives read_faults.Memory (λ forwarded. forwarded) c.optional_forwarded.result)
    (sym (on_value optional_forwarded (optional_at (view c.args.v.now) (codes "IPSetForwardedIPConfig") c.args.path.now) (option_map (λ v. view v.now) c.in_ok-found.found) (member_path c.args.path.now (codes "IPSetForwardedIPConfig")) c.in_ok-at.at c.in_ok-found.ensures c.in_ok-at.ensures))
    c.optional_forwarded.ensures
