use Rattle.std.proofs.Common.{arith}
use Rattle.byte_automata.proofs.Sourced.{have-more}
use Rattle.byte_automata.proofs.sources.sources_of.Goals as goal

pub states-preserved : goal.states-preserved
states-preserved c =
    have-more c.args.dfa.now c.states-end.ensures.whole c.states.state c.states.sources c.add_source.new.sources (omega (arith, c.states-test.true, c.states-end.ensures.count)) c.states.invariant c.in_ok-add_source.ensures
