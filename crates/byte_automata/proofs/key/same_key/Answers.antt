use Rattle.byte_automata.proofs.Flattens.{flattened-same}
use Rattle.byte_automata.proofs.key.same_key.Goals as goal

pub returns : goal.returns
returns c = flattened-same c.args.one.now c.args.other.now c.requires
