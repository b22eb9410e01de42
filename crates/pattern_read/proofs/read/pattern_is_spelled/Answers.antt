use Rattle.pattern_read.proofs.SpelledLemmas.{pinned}
use Rattle.pattern_read.proofs.read.pattern_is_spelled.Goals as goal

pub returns : goal.returns
returns c = pinned
