use Rattle.std.proofs.Common.{◌≡◌, ◌++◌, ◌∷◌, false}
use Rattle.serde_json.specs.Data.{Data, put}
use Rattle.serde_json.specs.View.{members_view}
use Rattle.serde_json.specs.Written.{compact_text, members_have_float, members_text}
use Rattle.key_text.specs.Edited.{rest_text}
use Rattle.key_text.proofs.patterns.put_text.Given as goal

abbrev pub invariant-loop-key : goal.invariant-loop-key
invariant-loop-key l = (value : Data) → l.written ≡ compact_text value → members_have_float (members_view l.members.entries) ≡ false
    → (members_have_float (members_view l.key-iterator) ≡ false)
    × (l.text ++ rest_text l.placed l.later l.name value (members_view l.key-iterator) ≡ 123 ∷ members_text false (put l.name value (members_view l.members.entries)))
