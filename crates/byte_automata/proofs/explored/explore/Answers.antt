use Rattle.std.proofs.Common.{◌≤◌, length, arith}
use Rattle.byte_automata.proofs.Different.{numbers_below}
use Rattle.byte_automata.proofs.explored.explore.Goals as goal

pub places-smaller : goal.places-smaller
places-smaller c =
    let h : length c.places.order ≤ length c.args.dfa.now.states = numbers_below (length c.args.dfa.now.states) c.places.order c.places.invariant.0.different c.places.invariant.0.within in
    omega (arith, h, c.places-test.true, c.len.ensures.count)

pub places-preserved : goal.places-preserved
places-preserved c = (c.in_ok-explore_state.ensures.ok, omega (arith, c.places-test.true, c.len.ensures.count, c.explore_state.ensures.grown))
