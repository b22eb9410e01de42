use Rattle.std.proofs.Common.{get_or, arith}
use Rattle.byte_automata.proofs.Marks.{IsAt, adds-step, adds-number, all-marked}
use Rattle.byte_automata.proofs.marking.mark_all.Goals as goal

pub loop-state-preserved : goal.loop-state-preserved
loop-state-preserved c =
    let i = c.loop-state.state-index in
    adds-step (IsAt c.args.states.now) i c.args.marked.now c.loop-state.marked c.number.new.self c.loop-state.invariant
    (adds-number c.loop-state.marked c.number.new.self (get_or c.args.states.now i 0) c.in_ok-number.field-0 c.in_ok-number.ensures.ok)

pub returns : goal.returns
returns c = all-marked c.args.states.now c.args.marked.now c.loop-state.marked c.loop-state.state-index (omega (arith, c.loop-state-test.false, c.loop-state.auto.state-index-end)) c.loop-state.invariant
