use Rattle.answer_book.proofs.Lawful.{lawful}
use Rattle.answer_book.proofs.laws.read_answers_are_lawful.Goals as goal

pub returns : goal.returns
returns c = lawful
