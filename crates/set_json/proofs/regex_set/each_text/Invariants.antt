use Rattle.std.proofs.Common.{◌≡◌, map, drop}
use Rattle.serde_json.specs.View.{view}
use Rattle.json_view.proofs.Each.{Behind}
use Rattle.statement_json.specs.Matches.{regex_at}
use Rattle.set_json.proofs.regex_set.each_text.Given as goal

abbrev pub invariant-loop-found : goal.invariant-loop-found
invariant-loop-found l =
    (l.index ≡ l.found-index) × Behind regex_at l.texts l.index (map view (drop l.found-index l.all)) (map view l.all) l.path
