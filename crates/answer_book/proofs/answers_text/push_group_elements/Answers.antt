use Rattle.std.proofs.Common.{arith}
use Rattle.waf_model.specs.AnswersText.{group_answer_text}
use Rattle.json_text.proofs.Commas.{commas_step}
use Rattle.answer_book.proofs.answers_text.push_group_elements.Goals as goal

pub loop-place-preserved : goal.loop-place-preserved
loop-place-preserved c =
    commas_step group_answer_text c.args.groups.now c.loop-place.place c.index-groups-place.result _ _ _ _ (omega arith) c.index-groups-place.is
    c.loop-place.invariant c.in_ok-push_separator.ensures c.in_ok-push_group.ensures
