use Rattle.std.proofs.Common.{codes, subst, sym}
use Rattle.json_view.proofs.Steps.{on_value}
use Rattle.json_view.specs.Words.{text_member_at}
use Rattle.serde_json.specs.View.{view}
use Rattle.waf_model.specs.Gives.{Gives}
use Rattle.waf_model.specs.Json.{member_path}
use Rattle.waf_model.specs.declared.read_fault.ReadFault.TheVariants as read_faults
use Rattle.statement_json.specs.Matches.{search_of, search_at}
use Rattle.statement_json.proofs.search.search.Goals as goal

pub returns : goal.returns
unfolding search_at
returns c =
    subst (Gives read_faults.Memory (λ search. search) c.search_of.result)
    (sym (on_value (search_of c.args.encoding) (text_member_at (view c.args.v.now) (codes "SearchString") c.args.path.now) c.in_ok-text.text.now (member_path c.args.path.now (codes "SearchString")) c.in_ok-at.at c.in_ok-text.ensures c.in_ok-at.ensures))
    c.search_of.ensures
