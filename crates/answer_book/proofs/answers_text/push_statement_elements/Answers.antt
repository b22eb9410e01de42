use Rattle.std.proofs.Common.{arith}
use Rattle.waf_model.specs.AnswersText.{statement_answer_text}
use Rattle.json_text.proofs.Commas.{commas_step}
use Rattle.answer_book.proofs.answers_text.push_statement_elements.Goals as goal

pub loop-place-preserved : goal.loop-place-preserved
loop-place-preserved c =
    commas_step statement_answer_text c.args.answers.now c.loop-place.place c.index-answers-place.result _ _ _ _ (omega arith) c.index-answers-place.is
    c.loop-place.invariant c.in_ok-push_separator.ensures c.in_ok-push_statement.ensures
