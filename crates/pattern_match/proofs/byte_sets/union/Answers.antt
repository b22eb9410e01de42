use Rattle.pattern_match.proofs.Sets.{has_byte_or}
use Rattle.pattern_match.proofs.byte_sets.union.Goals as goal

pub returns : goal.returns
returns c = has_byte_or c.args.one c.args.other
