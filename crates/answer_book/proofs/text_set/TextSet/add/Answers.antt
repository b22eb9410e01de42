use Rattle.std.proofs.Common.{◌∙◌}
use Rattle.answer_book.specs.Keys.{text_order}
use Rattle.answer_book.proofs.Inserted.{inserted}
use Rattle.answer_book.proofs.text_set.TextSet.add.Goals as goal

pub returns : goal.returns
returns c = inserted (λ t. t.items) text_order c.self.inside.texts.keys c.insert.new.self.keys c.in_ok-bytes.bytes c.args.self.now c.args.text.now
    c.in_ok-insert.ensures.keys c.self.view_is (c.in_ok-bytes.ensures.items ∙ c.bytes.ensures)
