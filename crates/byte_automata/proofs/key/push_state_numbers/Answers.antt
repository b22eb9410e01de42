use Rattle.std.proofs.Common.{arith}
use Rattle.byte_automata.proofs.Flattens.{covers-few}
use Rattle.byte_automata.proofs.key.push_state_numbers.Goals as goal

pub overflow_cast-edges : goal.overflow_cast-edges
overflow_cast-edges c = omega (arith, covers-few 0 c.args.edges.now c.requires.covers)
