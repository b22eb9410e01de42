use Rattle.std.proofs.Common.{◌≡◌, map, drop}
use Rattle.serde_json.specs.View.{view}
use Rattle.json_view.proofs.Each.{Behind}
use Rattle.set_json.specs.Sets.{managed_capacity_of}
use Rattle.set_json.proofs.lists.each_capacity.Given as goal

abbrev pub invariant-loop-found : goal.invariant-loop-found
invariant-loop-found l =
    (l.index ≡ l.found-index) × Behind managed_capacity_of l.capacities l.index (map view (drop l.found-index l.all)) (map view l.all) l.path
