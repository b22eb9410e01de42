use Rattle.std.proofs.Common.{codes, subst, sym}
use Rattle.json_view.proofs.Steps.{on_member}
use Rattle.serde_json.specs.View.{view}
use Rattle.waf_model.specs.Gives.{Gives}
use Rattle.waf_model.specs.declared.read_fault.ReadFault.TheVariants as read_faults
use Rattle.statement_json.specs.Fields.{field_of, field_at}
use Rattle.statement_json.proofs.field.field.Goals as goal

pub returns : goal.returns
unfolding field_at
returns c =
    subst (Gives read_faults.Memory (λ kind. kind) c.field_of.result)
    (sym (on_member field_of (view c.args.v.now) (view c.in_ok-found.found.now) (codes "FieldToMatch") c.args.path.now c.in_ok-at.at c.in_ok-found.ensures c.in_ok-at.ensures))
    c.field_of.ensures
