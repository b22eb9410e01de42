use Rattle.std.proofs.Common.{codes, refl}
use Rattle.serde_json.specs.Data.{string}
use Rattle.serde_json.specs.View.{view}
use Rattle.key_text.specs.Keys.{with_value}
use Rattle.key_text.proofs.float.search_holds_float.Goals as goal

pub returns : goal.returns
returns c = λ search. c.holds_float_but.ensures.with (with_value (codes "SearchString") (string search) (view c.args.found.now)) (c.holds_float_but-other.ensures.with (string search) refl)
