use Rattle.std.proofs.lemmas.Result.{IfOk-weaker}
use Rattle.serde_json.specs.Data.{string}
use Rattle.key_text.proofs.key.searching.Goals as goal

pub returns : goal.returns
returns c = IfOk-weaker c.text_with.result _ _
    (λ text is. is (string c.args.search.now) (λ _. c.in_ok-search.ensures))
    c.text_with.ensures
