use Rattle.std.proofs.Common.{◌++◌, codes, decimal}
use Rattle.waf_model.specs.AnswersText.{kind_name}
use Rattle.waf_model.specs.JsonText.{json_string}
use Rattle.json_text.proofs.Pushed.{pushed}
use Rattle.answer_book.proofs.answers_text.push_to_kind.Goals as goal

pub returns : goal.returns
returns c =
    let token = c.args.token.now in
    pushed c.args.text.now c.push-2.new.self c.push_kind.new.text (codes "{\"ImmunityTime\":" ++ decimal token.immunity ++ codes ",\"Kind\":") (json_string (kind_name token.kind))
    (pushed c.args.text.now c.push_decimal.new.text c.push-2.new.self (codes "{\"ImmunityTime\":" ++ decimal token.immunity) (codes ",\"Kind\":")
    (pushed c.args.text.now c.push.new.self c.push_decimal.new.text (codes "{\"ImmunityTime\":") (decimal token.immunity) c.in_ok-push.ensures.ok c.in_ok-push_decimal.ensures)
    c.in_ok-push-2.ensures.ok) c.in_ok-push_kind.ensures
