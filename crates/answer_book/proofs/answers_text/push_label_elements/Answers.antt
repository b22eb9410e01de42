use Rattle.std.proofs.Common.{arith}
use Rattle.waf_model.specs.JsonText.{json_string}
use Rattle.json_text.proofs.Commas.{commas_step}
use Rattle.answer_book.proofs.answers_text.push_label_elements.Goals as goal

pub loop-place-preserved : goal.loop-place-preserved
loop-place-preserved c =
    commas_step json_string c.args.labels.now c.loop-place.place c.index-labels-place.result _ _ _ _ (omega arith) c.index-labels-place.is
    c.loop-place.invariant c.in_ok-push_separator.ensures c.in_ok-push_text.ensures
