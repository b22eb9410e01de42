use Rattle.pattern_read.proofs.Spelling.{one_pattern}
use Rattle.pattern_read.proofs.read.one_spelling.Goals as goal

pub returns : goal.returns
returns c = one_pattern
