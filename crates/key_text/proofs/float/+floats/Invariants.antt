use Rattle.std.proofs.Common.{◌≡◌, drop}
use Rattle.serde_json.specs.View.{items_view, members_view}
use Rattle.serde_json.specs.Written.{items_have_float, members_have_float}
use Rattle.key_text.proofs.Floats.{values_have_float}
use Rattle.key_text.proofs.float.+floats.Given as goal

abbrev pub invariant-any_item-loop-item : goal.invariant-any_item-loop-item
invariant-any_item-loop-item l = items_have_float (items_view (drop l.item-index l.items)) ≡ items_have_float (items_view l.items)

abbrev pub invariant-any_member-loop-value : goal.invariant-any_member-loop-value
invariant-any_member-loop-value l = values_have_float l.value-iterator ≡ members_have_float (members_view l.members.entries)
