use Rattle.std.proofs.Common.{not, sym, ap, ◌∙◌}
use Rattle.text_transform.proofs.Kept.{last_below}
use Rattle.text_transform.proofs.paths.ends_below.Goals as goal

pub returns-in-Some : goal.returns-in-Some
returns-in-Some c = ap not c.is_above.ensures ∙ sym (last_below c.args.segments.now _ c.in-Some.ensures.value)
