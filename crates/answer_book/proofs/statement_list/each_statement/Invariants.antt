use Rattle.std.proofs.Common.{◌≡◌, map, drop}
use Rattle.serde_json.specs.View.{view}
use Rattle.json_view.proofs.Each.{Behind}
use Rattle.answer_book.specs.AnswersReading.{statement_answer_at}
use Rattle.answer_book.proofs.statement_list.each_statement.Given as goal

abbrev pub invariant-loop-found : goal.invariant-loop-found
invariant-loop-found l =
    (l.index ≡ l.found-index) × Behind statement_answer_at l.answers l.index (map view (drop l.found-index l.all)) (map view l.all) l.path
