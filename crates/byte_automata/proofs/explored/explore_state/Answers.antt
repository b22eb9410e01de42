use Rattle.std.proofs.Common.{◌≡◌, ◌<◌, ◌++◌, ◌⊎◌, [], ◌∷◌, length, get_or, arith, sym, ap, ◌∙◌, inl, inr}
use Rattle.std.proofs.lemmas.List.{get_or_default}
use Rattle.byte_automata.specs.Automaton.{state_at}
use Rattle.byte_automata.proofs.Rows.{rest-bounds}
use Rattle.byte_automata.proofs.Explores.{edge-rest, explored-edge, explored-place}
use Rattle.byte_automata.proofs.explored.explore_state.Goals as goal
use Rattle.byte_automata.proofs.explored.explore_state.Goals.{then-number-known+in_ok-push, else-number-known}

pub overflow_cast-low : goal.overflow_cast-low
overflow_cast-low c = omega (arith, rest-bounds c.edges_of-edges.result.now c.loop-edge.edge-index c.loop-edge.low (omega arith) c.loop-edge.invariant.2)

pub loop-edge-preserved : goal.loop-edge-preserved
loop-edge-preserved c =
    let edges = c.edges_of-edges.result.now in
    let i = c.loop-edge.edge-index in
    let in_edges : i < length edges = omega arith in
    let x = get_or edges i (record { last = 0; to = 0 }) in
    let is_x : x ≡ get_or edges i x = get_or_default edges i _ x in_edges in
    let noted =
    elim c.if-number-known.branch as (λ _. ((c.in_ok-number.number ≡ length c.loop-edge.order) × (c.if-number-known.arrivals.items ≡ c.loop-edge.arrivals.items ++ (record { from = c.args.place; byte = c.loop-edge.low }) ∷ [])) ⊎ ((c.in_ok-number.number ≡ length c.loop-edge.order → ⊥) × (c.if-number-known.arrivals.items ≡ c.loop-edge.arrivals.items))) [
      | then-number-known+in_ok-push w ↦ inl (omega (arith, w.if-number-known.true, c.len-known.ensures.count), ap (λ v. v.items) w.arrivals-is ∙ w.in_ok-push.ensures.items)
      | else-number-known w ↦ inr (λ e. omega (arith, e, w.if-number-known.false, c.len-known.ensures.count), ap (λ v. v.items) w.arrivals-is)
    ] in
    let step = explored-edge c.args.dfa.now c.loop-edge.order c.number.new.self c.loop-edge.arrivals.items c.if-number-known.arrivals.items c.args.place i c.loop-edge.low c.in_ok-number.number edges x
    c.loop-edge.invariant.4 c.loop-edge.invariant.3 (c.edges_of-edges.ensures.targets i _ in_edges) c.loop-edge.invariant.1 c.loop-edge.invariant.2 in_edges is_x c.in_ok-number.ensures.ok c.in_ok-number.ensures.different noted in
    let rest = edge-rest c.args.dfa.now c.loop-edge.order c.number.new.self c.loop-edge.arrivals.items c.args.place i c.loop-edge.low c.in_ok-number.number edges x
    c.loop-edge.invariant.4 c.loop-edge.invariant.3 (c.edges_of-edges.ensures.targets i _ in_edges) c.loop-edge.invariant.1 c.loop-edge.invariant.2 in_edges is_x c.in_ok-number.ensures.ok.place c.in_ok-number.ensures.different in
    rw c.from-low.ensures
    (omega (arith, step.1, c.loop-edge.invariant.0), step.0, rest, omega (arith, step.1, c.loop-edge.invariant.3), c.loop-edge.invariant.4 ∙ ap (λ s. (state_at c.args.dfa.now s).edges) (sym step.2))

pub returns-clause-ok : goal.returns-clause-ok
returns-clause-ok c = explored-place c.args.dfa.now c.loop-edge.order c.loop-edge.arrivals.items c.args.place c.loop-edge.edge-index c.loop-edge.low c.edges_of-edges.result.now c.loop-edge.invariant.4 c.edges_of-edges.ensures.covers c.loop-edge.invariant.1 c.loop-edge.invariant.2 (omega arith)
