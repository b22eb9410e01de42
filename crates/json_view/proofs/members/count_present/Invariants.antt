use Rattle.std.proofs.Common.{◌≡◌, ◌+◌, ◌≤◌, length}
use Rattle.std.specs.BTreeMap.{btree_map_len}
use Rattle.serde_json.specs.View.{members_view}
use Rattle.waf_model.specs.Json.{present_members}
use Rattle.json_view.proofs.Counted.{present_values}
use Rattle.json_view.proofs.members.count_present.Given as goal

abbrev pub invariant-loop-found : goal.invariant-loop-found
invariant-loop-found l =
    (l.count + present_values l.found-iterator ≡ present_members (members_view l.members.entries))
    × (l.count + length l.found-iterator ≤ btree_map_len l.members)
