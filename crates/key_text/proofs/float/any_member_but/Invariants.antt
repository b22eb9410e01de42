use Rattle.std.proofs.Common.{◌≡◌}
use Rattle.serde_json.specs.View.{members_view}
use Rattle.key_text.specs.Edited.{edited_has_float}
use Rattle.key_text.proofs.float.any_member_but.Given as goal

abbrev pub invariant-loop-key : goal.invariant-loop-key
invariant-loop-key l = edited_has_float l.other l.name (members_view l.key-iterator) ≡ edited_has_float l.other l.name (members_view l.members.entries)
