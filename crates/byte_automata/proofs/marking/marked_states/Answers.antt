use Rattle.std.proofs.Common.{[], arith}
use Rattle.byte_automata.proofs.Marks.{IsWaitingAt, adds-step, waiting-marked}
use Rattle.byte_automata.proofs.marking.marked_states.Goals as goal

pub loop-class-preserved : goal.loop-class-preserved
loop-class-preserved c =
    adds-step (IsWaitingAt c.args.parts.now.of.items c.args.parts.now.members c.args.sources.now c.args.waiting.now) c.loop-class.class-index [] c.loop-class.marked c.mark_class.new.marked c.loop-class.invariant c.in_ok-mark_class.ensures

pub returns : goal.returns
returns c =
    waiting-marked c.args.parts.now.of.items c.args.parts.now.members c.args.sources.now c.args.waiting.now c.loop-class.class-index [] c.loop-class.marked (omega (arith, c.loop-class-test.false, c.loop-class.auto.class-index-end)) c.loop-class.invariant
