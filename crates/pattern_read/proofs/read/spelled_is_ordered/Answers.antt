use Rattle.pattern_read.proofs.OrderLemmas.{spells_ordered}
use Rattle.pattern_read.proofs.read.spelled_is_ordered.Goals as goal

pub returns : goal.returns
returns c = spells_ordered
