use Rattle.std.proofs.Common.{◌≡◌, map, drop}
use Rattle.serde_json.specs.View.{view}
use Rattle.json_view.proofs.Each.{Behind}
use Rattle.set_json.specs.Lists.{ip_set_at}
use Rattle.set_json.proofs.lists.each_ip_set.Given as goal

abbrev pub invariant-loop-found : goal.invariant-loop-found
invariant-loop-found l =
    (l.index ≡ l.found-index) × Behind ip_set_at l.sets l.index (map view (drop l.found-index l.all)) (map view l.all) l.path
