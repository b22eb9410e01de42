use Rattle.std.proofs.lemmas.Result.{IfOk-weaker}
use Rattle.serde_json.specs.View.{members_view, view}
use Rattle.key_text.proofs.Texts.{object_with}
use Rattle.key_text.proofs.member.text_with.Goals as goal

pub returns-in-Some : goal.returns-in-Some
returns-in-Some c = IfOk-weaker c.edited.result _ _
    (λ text is value written. object_with c.args.name.now value (view c.args.v.now) (members_view c.in-Some.members.now.entries) c.args.written.now text c.in-Some.ensures written is)
    c.edited.ensures
