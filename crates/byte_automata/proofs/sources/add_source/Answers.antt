use Rattle.std.proofs.Common.{◌≡◌, ◌<◌, length, arith, ap}
use Rattle.byte_automata.specs.Automaton.{state_at}
use Rattle.byte_automata.specs.Sources.{edge_at}
use Rattle.byte_automata.proofs.Sourced.{adds_source-more}
use Rattle.byte_automata.proofs.sources.add_source.Goals as goal

pub loop-edge-preserved : goal.loop-edge-preserved
loop-edge-preserved c =
    let edges = (state_at c.args.dfa.now c.args.state).edges in
    let i = c.loop-edge.edge-index in
    let at = edge_at edges i in
    let is : (edge_at c.edges_of-edge-items.result.now i).to ≡ at.to = ap (λ t. (edge_at t i).to) c.edges_of-edge-items.ensures.edges in
    let l : i < length c.edges_of-edge-items.result.now = omega arith in
    let within : (edge_at c.edges_of-edge-items.result.now i).to < length c.loop-edge.sources = omega (arith, c.edges_of-edge-items.ensures.targets i (record { last = 0; to = 0 }) l, c.loop-edge.invariant.lengths, c.requires.lists) in
    rw c.in_ok-put.ensures (adds_source-more edges i c.args.state (edge_at c.edges_of-edge-items.result.now i).to c.args.sources.now c.loop-edge.sources within is c.loop-edge.invariant)
