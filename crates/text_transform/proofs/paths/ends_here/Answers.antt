use Rattle.std.proofs.Common.{sym, ◌∙◌}
use Rattle.text_transform.proofs.Kept.{last_here}
use Rattle.text_transform.proofs.paths.ends_here.Goals as goal

pub returns-in-Some : goal.returns-in-Some
returns-in-Some c = c.is_here.ensures ∙ sym (last_here c.args.segments.now _ c.in-Some.ensures.value)
