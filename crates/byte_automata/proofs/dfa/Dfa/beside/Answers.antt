use Rattle.std.proofs.Common.{Ok, Err}
use Rattle.byte_automata.proofs.Meets.{makes-pairs, pairs-language}
use Rattle.byte_automata.proofs.dfa.Dfa.beside.Goals as goal

pub returns-in-Ok-clause-language : goal.returns-in-Ok-clause-language
returns-in-Ok-clause-language c =
    pairs-language c.args.self.now c.args.other.now c.states.ensures.whole c.states-2.ensures.whole c.args.kept c.in-Ok.found c.states-in-Ok.ensures.whole c.in-Ok.ensures.language

pub returns-in-Ok-clause-nodes : goal.returns-in-Ok-clause-nodes
returns-in-Ok-clause-nodes c =
    makes-pairs c.args.self.now c.args.other.now c.states.ensures.whole c.states-2.ensures.whole (Ok c.in-Ok.found) c.args.meter.now c.walked.new.meter c.in-Ok.ensures.nodes

pub returns-in-Err-clause-nodes : goal.returns-in-Err-clause-nodes
returns-in-Err-clause-nodes c =
    makes-pairs c.args.self.now c.args.other.now c.states.ensures.whole c.states-2.ensures.whole (Err c.in-Err.stop) c.args.meter.now c.walked.new.meter c.in-Err.ensures.nodes
