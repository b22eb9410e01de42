use Rattle.std.proofs.Common.{◌≡◌, map, drop}
use Rattle.serde_json.specs.View.{view}
use Rattle.json_view.proofs.Each.{Behind}
use Rattle.statement_json.specs.Groups.{excluded_of}
use Rattle.statement_json.proofs.group_use.each_excluded.Given as goal

abbrev pub invariant-loop-found : goal.invariant-loop-found
invariant-loop-found l =
    (l.index ≡ l.found-index) × Behind excluded_of l.names l.index (map view (drop l.found-index l.all)) (map view l.all) l.path
