use Rattle.std.proofs.Common.{arith}
use Rattle.waf_model.specs.AnswersText.{token_answer_text}
use Rattle.json_text.proofs.Commas.{commas_step_at}
use Rattle.answer_book.proofs.answers_text.push_token_elements.Goals as goal

pub loop-place-preserved : goal.loop-place-preserved
loop-place-preserved c =
    commas_step_at token_answer_text c.args.tokens.now c.loop-place.place _ _ _ _ _ (omega arith)
    c.loop-place.invariant c.in_ok-push_separator.ensures c.in_ok-push_token.ensures
