use Rattle.byte_automata.proofs.Meets.{pair-within}
use Rattle.byte_automata.proofs.pairs.Pairs.within.Goals as goal

pub returns-clause-left : goal.returns-clause-left
returns-clause-left c = (pair-within c.args.self.now.left.now c.args.self.now.right.now c.states.ensures.whole c.states-2.ensures.whole c.args.pair.now c.requires).0

pub returns-clause-right : goal.returns-clause-right
returns-clause-right c = (pair-within c.args.self.now.left.now c.args.self.now.right.now c.states.ensures.whole c.states-2.ensures.whole c.args.pair.now c.requires).1
