use Rattle.std.proofs.Common.{◌≡◌, map, drop}
use Rattle.serde_json.specs.View.{view}
use Rattle.json_view.proofs.Each.{Behind}
use Rattle.answer_book.specs.AnswersReading.{label_at}
use Rattle.answer_book.proofs.group_list.each_label.Given as goal

abbrev pub invariant-loop-found : goal.invariant-loop-found
invariant-loop-found l =
    (l.index ≡ l.found-index) × Behind label_at l.labels l.index (map view (drop l.found-index l.all)) (map view l.all) l.path
