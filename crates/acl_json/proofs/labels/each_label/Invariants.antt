use Rattle.std.proofs.Common.{◌≡◌, map, drop}
use Rattle.serde_json.specs.View.{view}
use Rattle.json_view.proofs.Each.{Behind}
use Rattle.acl_json.specs.Rules.{label_of}
use Rattle.acl_json.proofs.labels.each_label.Given as goal

abbrev pub invariant-loop-found : goal.invariant-loop-found
invariant-loop-found l =
    (l.index ≡ l.found-index) × Behind label_of l.labels l.index (map view (drop l.found-index l.all)) (map view l.all) l.path
