use Rattle.std.proofs.Common.{◌≡◌, ◌<◌, ◌^◌, length, get_or, arith, sym, ◌∙◌, subst}
use Rattle.byte_automata.specs.FirstReach.{IsExplored}
use Rattle.byte_automata.specs.Least.{IsNumbered, Renumbers}
use Rattle.byte_automata.specs.Places.{IsPlaced}
use Rattle.byte_automata.specs.Row.{joined, renamed}
use Rattle.byte_automata.proofs.Different.{numbers_below}
use Rattle.byte_automata.proofs.Renumbers.{IsRenumbering, renumbering-more, renumbers, numbered, whole}
use Rattle.byte_automata.proofs.renumbered.renumbered.Goals as goal
use Rattle.byte_automata.proofs.renumbered.renumbered.Goals.{After-order}

pub order-preserved : goal.order-preserved
order-preserved c =
    let row : c.in_ok-row.row.items ≡ joined (renamed (λ s. get_or c.as_slice.result.now s 0) c.edges_of.result.now) = c.in_ok-row.ensures in
    let h = renumbering-more c.args.dfa.now c.as_slice-order.result.now c.in_ok-places.places.items c.order.i c.order.states.items c.accepting.result c.in_ok-row.row.items c.order.invariant c.accepting.ensures
    (row ∙ (λ i. joined (renamed (λ s. get_or (c.as_slice.ensures.value i) s 0) (c.edges_of.ensures.edges i)))) in
    rw (c.in_ok-push_state.ensures, c.from_vec.ensures) h

few : (c : After-order) → length c.as_slice-order.result.now < 2 ^ 32
few c =
    let x = subst (λ o. IsExplored c.args.dfa.now o c.in_ok-explored.explored.arrivals.items (length o) 0) (sym c.as_slice-order.ensures) c.in_ok-explored.ensures in
    omega (arith, numbers_below (length c.args.dfa.now.states) c.as_slice-order.result.now x.different x.within, c.states.ensures.whole.few)

explored : (c : After-order) → IsExplored c.args.dfa.now c.as_slice-order.result.now c.in_ok-explored.explored.arrivals.items (length c.as_slice-order.result.now) 0
explored c = subst (λ o. IsExplored c.args.dfa.now o c.in_ok-explored.explored.arrivals.items (length o) 0) (sym c.as_slice-order.ensures) c.in_ok-explored.ensures

placed : (c : After-order) → IsPlaced c.as_slice-order.result.now (length c.as_slice-order.result.now) (length c.args.dfa.now.states) c.in_ok-places.places.items
placed c = subst (λ n. IsPlaced c.as_slice-order.result.now (length c.as_slice-order.result.now) n c.in_ok-places.places.items) c.states.ensures.count c.in_ok-places.ensures

done : (c : After-order) → IsRenumbering c.args.dfa.now c.as_slice-order.result.now c.in_ok-places.places.items (length c.as_slice-order.result.now) c.order.states.items
done c = subst (λ n. IsRenumbering c.args.dfa.now c.as_slice-order.result.now c.in_ok-places.places.items n c.order.states.items) (let e : c.order.i ≡ length c.as_slice-order.result.now = omega (arith, c.order-test.false, c.order.auto.i-end) in e) c.order.invariant

pub of-requires : goal.of-requires
of-requires c =
    let at = (goal.at.of-requires c).After-order in
    whole c.args.dfa.now c.states.ensures.whole c.as_slice-order.result.now c.in_ok-places.places.items c.in_ok-explored.explored.arrivals.items c.order.states.items (few at) (explored at) (placed at) (done at)

pub returns-clause-renumbers : goal.returns-clause-renumbers
returns-clause-renumbers c =
    let at = (goal.at.returns-clause-renumbers c).After-order in
    subst (Renumbers c.args.dfa.now) (λ i. record { start = sym c.of.ensures.0 i; states = sym c.of.ensures.1 i }) (renumbers c.args.dfa.now c.states.ensures.whole c.as_slice-order.result.now c.in_ok-places.places.items c.in_ok-explored.explored.arrivals.items c.order.states.items (few at) (explored at) (placed at) (done at))

pub returns-clause-numbered : goal.returns-clause-numbered
returns-clause-numbered c =
    let at = (goal.at.returns-clause-numbered c).After-order in
    subst IsNumbered (λ i. record { start = sym c.of.ensures.0 i; states = sym c.of.ensures.1 i }) (numbered c.args.dfa.now c.states.ensures.whole c.as_slice-order.result.now c.in_ok-places.places.items c.in_ok-explored.explored.arrivals.items c.order.states.items (few at) (explored at) (placed at) (done at))
