use Rattle.std.proofs.Common.{◌↔◌, Bool, IsTrue, sym, subst}
use Rattle.waf_model.specs.Passes.{Stands}
use Rattle.waf_model.specs.declared.matching.Position.TheVariants as positions
use Rattle.match_eval.proofs.Places.{contains_is}
use Rattle.match_eval.proofs.standing.contains.Goals as goal

pub returns : goal.returns
returns c = subst (λ (r : Bool). IsTrue r ↔ Stands positions.Contains c.args.search.now c.args.text.now) (sym c.is_some.ensures) (contains_is c.args.search.now c.args.text.now c.find.result c.find.ensures)
