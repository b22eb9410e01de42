use Rattle.std.proofs.Common.{◌≡◌, map, drop}
use Rattle.serde_json.specs.View.{view}
use Rattle.json_view.proofs.Each.{Behind}
use Rattle.request_parts.specs.RequestReading.{line_of}
use Rattle.request_parts.proofs.line.each_line.Given as goal

abbrev pub invariant-loop-found : goal.invariant-loop-found
invariant-loop-found l =
    (l.index ≡ l.found-index) × Behind line_of l.lines.items l.index (map view (drop l.found-index l.all)) (map view l.all) l.path
