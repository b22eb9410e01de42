use Rattle.std.proofs.lemmas.Result.{IfOk-weaker}
use Rattle.serde_json.specs.View.{members_view, view}
use Rattle.key_text.proofs.Texts.{object_without}
use Rattle.key_text.proofs.member.text_without.Goals as goal

pub returns-in-Some : goal.returns-in-Some
returns-in-Some c = IfOk-weaker c.edited.result _ _
    (λ text is. object_without c.args.name.now (view c.args.v.now) (members_view c.in-Some.members.now.entries) text c.in-Some.ensures is)
    c.edited.ensures
