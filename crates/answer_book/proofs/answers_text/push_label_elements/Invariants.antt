use Rattle.std.proofs.Common.{◌≡◌, ◌++◌, take, map}
use Rattle.waf_model.specs.JsonText.{with_commas, json_string}
use Rattle.answer_book.proofs.answers_text.push_label_elements.Given as goal

-- the elements so far are written
abbrev pub invariant-loop-place : goal.invariant-loop-place
invariant-loop-place l = l.text ≡ l.fn.text ++ with_commas (map json_string (take l.place l.labels))
