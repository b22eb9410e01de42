use Rattle.std.proofs.Common.{codes}
use Rattle.std.proofs.lemmas.Result.{IfOk-weaker}
use Rattle.serde_json.specs.Data.{array}
use Rattle.serde_json.specs.View.{members_view, view}
use Rattle.key_text.specs.Keys.{text_items}
use Rattle.key_text.proofs.Texts.{object_put}
use Rattle.key_text.proofs.patterns.patterns_key.Goals as goal

pub returns-in-Some : goal.returns-in-Some
returns-in-Some c = IfOk-weaker c.put_text.result _ _
    (λ text is. object_put (codes "RegularExpressionList") (array (text_items c.args.texts.now)) (view c.args.statement.now) (members_view c.in-Some.members.now.entries) text c.in-Some.ensures
    (is (array (text_items c.args.texts.now)) c.in_ok-list.ensures))
    c.put_text.ensures
