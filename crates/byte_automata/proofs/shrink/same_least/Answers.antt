use Rattle.byte_automata.proofs.Canonical.{least-equal}
use Rattle.byte_automata.proofs.shrink.same_least.Goals as goal

pub returns : goal.returns
returns c = least-equal c.args.one.now c.args.other.now c.requires.one c.requires.other c.requires.language
