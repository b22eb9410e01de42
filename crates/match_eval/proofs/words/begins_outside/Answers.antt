use Rattle.match_eval.proofs.Edges.{begins_is}
use Rattle.match_eval.proofs.words.begins_outside.Goals as goal

pub returns-in-Some : goal.returns-in-Some
returns-in-Some c = begins_is c.args.text.now c.in-Some.first.now c.in-Some.field-0-1.now c.is_word.result c.in-Some.ensures.cases.0 c.is_word.ensures
