use Rattle.std.proofs.Common.{◌≡◌, ℕ, ◌<◌, ◌≤◌, length, get_or, arith, refl, ap, ◌∙◌, subst}
use Rattle.std.proofs.lemmas.List.{get_or_default}
use Rattle.waf_base.specs.declared.refusal.Stop.TheVariants.{Memory}
use Rattle.byte_automata.specs.Automaton.{accepts}
use Rattle.byte_automata.specs.Grows.{Grows}
use Rattle.byte_automata.specs.Numbers.{HasNumber}
use Rattle.byte_automata.specs.Row.{target}
use Rattle.byte_automata.proofs.Walks.{first-stops, stops-kept, reached-here, walking-more, walking-stops, walking-kept, walking-language, walking-made, walking-counted, makes-stopped, makes-none, makes-all}
use Rattle.byte_automata.proofs.walking.walked.Goals as goal
use Rattle.byte_automata.proofs.walking.walked.Goals.{After-index-as_slice-number}

more : (g : _) (c : After-index-as_slice-number g) → length c.places.states.items < length c.places.places
more g c = omega (arith, c.places-test.true, c.len.ensures, c.len-in-places.ensures.count, c.places.states.ok.0)

-- the number is that of the next state
same : (g : _) (c : After-index-as_slice-number g) → c.len-number.result ≡ length c.places.states.items
same g c = omega (arith, c.len-number.ensures, c.places.states.ok.0)

here : (g : _) (c : After-index-as_slice-number g) → c.index-as_slice-number.result ≡ get_or c.places.places (length c.places.states.items) c.index-as_slice-number.result
here g c = c.index-as_slice-number.is ∙ (λ i. get_or (c.as_slice.ensures i) (same g c i) c.index-as_slice-number.result)

pub returns-in-Err-clause-nodes : goal.returns-in-Err-clause-nodes
returns-in-Err-clause-nodes g c =
    makes-none (g.W.Walk.start c.args.walk.now) (g.W.Walk.after c.args.walk.now) c.args.meter.now c.args.meter.now (record { limit = refl; made = omega arith }) refl

pub returns-in-Err-reach-clause-nodes : goal.returns-in-Err-reach-clause-nodes
returns-in-Err-reach-clause-nodes g c =
    let most : c.args.meter.now.made ≤ c.reach.new.meter.limit = omega (arith, c.reach.ensures.limit, c.args.meter.now.within) in
    let kept : c.args.meter.now.made ≤ c.reach.new.meter.made = stops-kept (λ q. q ≡ c.in-Ok.first) c.in-Err-reach.stop c.new-places.result c.reach.new.places c.args.meter.now.made c.reach.new.meter.made c.reach.new.meter.limit c.reach.ensures.grown most c.in-Err-reach.ensures.stop in
    makes-stopped (g.W.Walk.start c.args.walk.now) (g.W.Walk.after c.args.walk.now) c.args.meter.now c.reach.new.meter (record { limit = c.reach.ensures.limit; made = kept }) c.in-Err-reach.stop
    (first-stops (g.W.Walk.start c.args.walk.now) (g.W.Walk.after c.args.walk.now) (g.W.Walk.accepting c.args.walk.now) c.in-Err-reach.stop c.in-Ok.first c.new-places.result c.reach.new.places c.args.meter.now.made c.reach.new.meter.made c.reach.new.meter.limit most c.new-places.ensures c.in-Ok.ensures
    c.reach.ensures.grown c.reach.ensures.different c.in-Err-reach.ensures.stop)

pub accepts-accepting-requires : goal.accepts-accepting-requires
accepts-accepting-requires g c =
    reached-here (g.W.Walk.start c.args.walk.now) (g.W.Walk.after c.args.walk.now) c.places.places (length c.places.states.items) c.index-as_slice-number.result c.places.invariant.reached (more g c) (here g c)

pub returns-in-Err-edges_of_place-clause-nodes : goal.returns-in-Err-edges_of_place-clause-nodes
returns-in-Err-edges_of_place-clause-nodes g c =
    let at_index = (goal.at.returns-in-Err-edges_of_place-clause-nodes g c).After-index-as_slice-number in
    let grown = subst (λ n. Grows (λ q. (byte : ℕ) × (byte < 256) × (q ≡ g.W.Walk.after c.args.walk.now (get_or c.places.places n (g.W.Walk.start c.args.walk.now)) byte)) c.places.places c.edges_of_place.new.places) (same g at_index) c.edges_of_place.ensures.grown in
    let most : c.places.meter.made ≤ c.edges_of_place.new.meter.limit = omega (arith, c.places.meter.within, c.edges_of_place.ensures.limit) in
    let kept = walking-kept (g.W.Walk.start c.args.walk.now) (g.W.Walk.after c.args.walk.now) (g.W.Walk.accepting c.args.walk.now) c.args.meter.now.made c.places.meter.made c.edges_of_place.new.meter.made c.args.meter.now.limit c.places.meter.limit c.edges_of_place.new.meter.limit c.places.places c.edges_of_place.new.places c.places.states.items c.places.invariant
    (more g at_index) grown c.edges_of_place.ensures.different c.in-Err-edges_of_place.stop c.in-Err-edges_of_place.ensures.stop most in
    makes-stopped (g.W.Walk.start c.args.walk.now) (g.W.Walk.after c.args.walk.now) c.args.meter.now c.edges_of_place.new.meter (record { limit = c.edges_of_place.ensures.limit ∙ c.places.invariant.limits; made = kept }) c.in-Err-edges_of_place.stop
    (walking-stops (g.W.Walk.start c.args.walk.now) (g.W.Walk.after c.args.walk.now) (g.W.Walk.accepting c.args.walk.now) c.args.meter.now.made c.places.meter.made c.edges_of_place.new.meter.made c.args.meter.now.limit c.places.meter.limit c.edges_of_place.new.meter.limit c.places.places c.edges_of_place.new.places c.places.states.items c.places.invariant
    (more g at_index) grown c.edges_of_place.ensures.different c.in-Err-edges_of_place.stop c.in-Err-edges_of_place.ensures.stop (omega (arith, most, c.places.invariant.counted)))

pub places-preserved : goal.places-preserved
places-preserved g c =
    let at_index = (goal.at.places-preserved g c).After-index-as_slice-number in
    let grown = subst (λ n. Grows (λ q. (byte : ℕ) × (byte < 256) × (q ≡ g.W.Walk.after c.args.walk.now (get_or c.places.places n (g.W.Walk.start c.args.walk.now)) byte)) c.places.places c.edges_of_place.new.places) (same g at_index) c.edges_of_place.ensures.grown in
    let leads = subst (λ n. (byte : ℕ) → byte < 256 → HasNumber c.edges_of_place.new.places (g.W.Walk.after c.args.walk.now (get_or c.places.places n (g.W.Walk.start c.args.walk.now)) byte) (target c.in-Ok-edges_of_place.edges.items byte)) (same g at_index) c.in-Ok-edges_of_place.ensures.leads in
    let place = here g at_index ∙ get_or_default c.places.places (length c.places.states.items) c.index-as_slice-number.result (g.W.Walk.start c.args.walk.now) (more g at_index) in
    rw (c.in-Ok-push_state.ensures, c.from_vec.ensures)
    (walking-more (g.W.Walk.start c.args.walk.now) (g.W.Walk.after c.args.walk.now) (g.W.Walk.accepting c.args.walk.now) c.args.meter.now.made c.places.meter.made c.edges_of_place.new.meter.made c.args.meter.now.limit c.places.meter.limit c.edges_of_place.new.meter.limit c.places.places c.edges_of_place.new.places c.places.states.items c.places.invariant
    (more g at_index) grown c.edges_of_place.ensures.different c.in-Ok-edges_of_place.ensures.counts c.edges_of_place.ensures.limit c.in-Ok-edges_of_place.edges.items c.in-Ok-edges_of_place.ensures.covers c.in-Ok-edges_of_place.ensures.targets leads
    c.accepts-accepting.result (c.accepts-accepting.ensures ∙ ap (g.W.Walk.accepting c.args.walk.now) place))

pub returns-in-Err-push_state-clause-nodes : goal.returns-in-Err-push_state-clause-nodes
returns-in-Err-push_state-clause-nodes g c =
    let at_index = (goal.at.returns-in-Err-push_state-clause-nodes g c).After-index-as_slice-number in
    let grown = subst (λ n. Grows (λ q. (byte : ℕ) × (byte < 256) × (q ≡ g.W.Walk.after c.args.walk.now (get_or c.places.places n (g.W.Walk.start c.args.walk.now)) byte)) c.places.places c.edges_of_place.new.places) (same g at_index) c.edges_of_place.ensures.grown in
    let most : c.places.meter.made ≤ c.edges_of_place.new.meter.limit = omega (arith, c.places.meter.within, c.edges_of_place.ensures.limit) in
    let kept = walking-kept (g.W.Walk.start c.args.walk.now) (g.W.Walk.after c.args.walk.now) (g.W.Walk.accepting c.args.walk.now) c.args.meter.now.made c.places.meter.made c.edges_of_place.new.meter.made c.args.meter.now.limit c.places.meter.limit c.edges_of_place.new.meter.limit c.places.places c.edges_of_place.new.places c.places.states.items c.places.invariant
    (more g at_index) grown c.edges_of_place.ensures.different Memory c.in-Ok-edges_of_place.ensures.counts most in
    makes-stopped (g.W.Walk.start c.args.walk.now) (g.W.Walk.after c.args.walk.now) c.args.meter.now c.edges_of_place.new.meter (record { limit = c.edges_of_place.ensures.limit ∙ c.places.invariant.limits; made = kept }) Memory
    (walking-stops (g.W.Walk.start c.args.walk.now) (g.W.Walk.after c.args.walk.now) (g.W.Walk.accepting c.args.walk.now) c.args.meter.now.made c.places.meter.made c.edges_of_place.new.meter.made c.args.meter.now.limit c.places.meter.limit c.edges_of_place.new.meter.limit c.places.places c.edges_of_place.new.places c.places.states.items c.places.invariant
    (more g at_index) grown c.edges_of_place.ensures.different Memory c.in-Ok-edges_of_place.ensures.counts (omega (arith, most, c.places.invariant.counted)))

pub returns-clause-language : goal.returns-clause-language
returns-clause-language g c =
    let all : length c.places.places ≤ length c.places.states.items = omega (arith, c.places-test.false, c.len.ensures, c.len-in-places.ensures.count, c.places.states.ok.0) in
    let h = walking-language (g.W.Walk.start c.args.walk.now) (g.W.Walk.after c.args.walk.now) (g.W.Walk.accepting c.args.walk.now) c.args.meter.now.made c.places.meter.made c.args.meter.now.limit c.places.meter.limit c.places.places c.places.states.items c.places.invariant all in
    λ text t. (λ i. accepts (record { start = c.of.ensures.0 i; states = c.of.ensures.1 i }) text) ∙ h text t

pub returns-clause-nodes : goal.returns-clause-nodes
returns-clause-nodes g c =
    let all : length c.places.places ≤ length c.places.states.items = omega (arith, c.places-test.false, c.len.ensures, c.len-in-places.ensures.count, c.places.states.ok.0) in
    makes-all (g.W.Walk.start c.args.walk.now) (g.W.Walk.after c.args.walk.now) c.args.meter.now c.places.meter (record { limit = c.places.invariant.limits; made = omega (arith, c.places.invariant.counted) }) _
    (walking-made (g.W.Walk.start c.args.walk.now) (g.W.Walk.after c.args.walk.now) (g.W.Walk.accepting c.args.walk.now) c.args.meter.now.made c.places.meter.made c.args.meter.now.limit c.places.meter.limit c.places.places c.places.states.items c.places.invariant all)

pub returns-clause-states : goal.returns-clause-states
returns-clause-states g c =
    let all : length c.places.places ≤ length c.places.states.items = omega (arith, c.places-test.false, c.len.ensures, c.len-in-places.ensures.count, c.places.states.ok.0) in
    rw c.of.ensures.1
    (walking-counted (g.W.Walk.start c.args.walk.now) (g.W.Walk.after c.args.walk.now) (g.W.Walk.accepting c.args.walk.now) c.args.meter.now.made c.places.meter.made c.args.meter.now.limit c.places.meter.limit c.places.places c.places.states.items c.places.invariant all)
