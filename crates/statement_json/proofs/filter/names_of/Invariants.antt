use Rattle.std.proofs.Common.{◌≡◌, map, drop}
use Rattle.serde_json.specs.View.{view}
use Rattle.json_view.proofs.Each.{Behind}
use Rattle.waf_model.specs.Json.{text_at}
use Rattle.statement_json.proofs.filter.names_of.Given as goal

abbrev pub invariant-loop-found : goal.invariant-loop-found
invariant-loop-found l =
    (l.index ≡ l.found-index) × Behind text_at l.names l.index (map view (drop l.found-index l.all)) (map view l.all) l.path
