use Rattle.std.proofs.Common.{◌≡◌, ◌++◌, ◌∷◌, false, option_map}
use Rattle.key_text.specs.Edited.{edited_text}
use Rattle.key_text.specs.Keys.{other_members}
use Rattle.serde_json.specs.View.{members_view}
use Rattle.serde_json.specs.Written.{members_have_float}
use Rattle.key_text.proofs.member.edited.Given as goal

abbrev pub invariant-loop-key : goal.invariant-loop-key
invariant-loop-key l =
    let other = option_map (λ written. written.now) l.other in
    members_have_float (other_members l.name (members_view l.members.entries)) ≡ false
    → (members_have_float (other_members l.name (members_view l.key-iterator)) ≡ false)
    × (l.text ++ edited_text other l.name (members_view l.key-iterator) l.later ≡ 123 ∷ edited_text other l.name (members_view l.members.entries) false)
