use Rattle.std.proofs.Common.{codes, subst, sym}
use Rattle.json_view.proofs.Steps.{on_member}
use Rattle.serde_json.specs.View.{view}
use Rattle.waf_model.specs.Gives.{Gives}
use Rattle.waf_model.specs.declared.read_fault.ReadFault.TheVariants as read_faults
use Rattle.statement_json.specs.Fields.{filter_of}
use Rattle.statement_json.proofs.filter.filter.Goals as goal

pub returns : goal.returns
returns c =
    subst (Gives read_faults.Memory (λ filter. filter) c.filter_of.result)
    (sym (on_member (filter_of c.args.included.now c.args.excluded.now) (view c.args.v.now) (view c.in_ok-found.found.now) (codes "MatchPattern") c.args.path.now c.in_ok-at.at c.in_ok-found.ensures c.in_ok-at.ensures))
    c.filter_of.ensures
