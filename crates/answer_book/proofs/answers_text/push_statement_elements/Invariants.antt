use Rattle.std.proofs.Common.{◌≡◌, ◌++◌, take, map}
use Rattle.waf_model.specs.AnswersText.{statement_answer_text}
use Rattle.waf_model.specs.JsonText.{with_commas}
use Rattle.answer_book.proofs.answers_text.push_statement_elements.Given as goal

-- the elements so far are written
abbrev pub invariant-loop-place : goal.invariant-loop-place
invariant-loop-place l = l.text ≡ l.fn.text ++ with_commas (map statement_answer_text (take l.place l.answers))
