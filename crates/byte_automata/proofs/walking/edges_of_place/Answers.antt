use Rattle.std.proofs.Common.{◌≡◌, ℕ, ◌<◌, get_or, arith, sym, ap, ◌∙◌, subst}
use Rattle.byte_automata.specs.Walk.{IsReached}
use Rattle.byte_automata.proofs.Walks.{place-here, stepping-grown, stepping-more, stepping-covers, stepping-targets, stepping-leads}
use Rattle.byte_automata.proofs.walking.edges_of_place.Goals as goal
use Rattle.byte_automata.proofs.walking.edges_of_place.Goals.{After-index-as_slice-number}

-- the place of that number is the one that it was at entry
here : (g : _) (c : After-index-as_slice-number g) → c.index-as_slice-number.result ≡ get_or c.args.places.now c.args.number (g.W.Walk.start c.args.walk.now)
here g c =
    place-here (g.W.Walk.start c.args.walk.now) (λ q. (byte : ℕ) × (byte < 256) × (q ≡ g.W.Walk.after c.args.walk.now (get_or c.args.places.now c.args.number (g.W.Walk.start c.args.walk.now)) byte)) c.args.places.now c.runs.places c.args.number c.index-as_slice-number.result c.runs.invariant.grown c.requires.number
    (c.index-as_slice-number.is ∙ ap (λ t. get_or t c.args.number c.index-as_slice-number.result) c.as_slice.ensures)

reached : (g : _) (c : After-index-as_slice-number g) → IsReached (g.W.Walk.start c.args.walk.now) (g.W.Walk.after c.args.walk.now) c.index-as_slice-number.result
reached g c = subst (IsReached (g.W.Walk.start c.args.walk.now) (g.W.Walk.after c.args.walk.now)) (sym (here g c)) (c.requires.reached c.args.number (g.W.Walk.start c.args.walk.now) c.requires.number)

pub run_end-last-requires : goal.run_end-last-requires
run_end-last-requires g c = reached g c

pub step-requires : goal.step-requires
step-requires g c = reached g (goal.at.step-requires g c).After-index-as_slice-number

pub returns-in_err-to-clause-grown : goal.returns-in_err-to-clause-grown
returns-in_err-to-clause-grown g c =
    let h = here g (goal.at.returns-in_err-to-clause-grown g c).After-index-as_slice-number in
    stepping-grown (g.W.Walk.after c.args.walk.now) (get_or c.args.places.now c.args.number (g.W.Walk.start c.args.walk.now)) c.args.places.now c.runs.places c.reach.new.places c.args.meter.now.made c.runs.meter.made c.reach.new.meter.made c.args.meter.now.limit c.runs.meter.limit c.reach.new.meter.limit c.runs.row.items c.runs.low c.runs.invariant c.runs-test.true c.in_ok-next.next (c.in_ok-next.ensures ∙ ap (λ p. g.W.Walk.after c.args.walk.now p c.runs.low) h) c.reach.ensures.grown

pub returns-in_err-push-clause-grown : goal.returns-in_err-push-clause-grown
returns-in_err-push-clause-grown g c =
    let h = here g (goal.at.returns-in_err-push-clause-grown g c).After-index-as_slice-number in
    stepping-grown (g.W.Walk.after c.args.walk.now) (get_or c.args.places.now c.args.number (g.W.Walk.start c.args.walk.now)) c.args.places.now c.runs.places c.reach.new.places c.args.meter.now.made c.runs.meter.made c.reach.new.meter.made c.args.meter.now.limit c.runs.meter.limit c.reach.new.meter.limit c.runs.row.items c.runs.low c.runs.invariant c.runs-test.true c.in_ok-next.next (c.in_ok-next.ensures ∙ ap (λ p. g.W.Walk.after c.args.walk.now p c.runs.low) h) c.reach.ensures.grown

pub runs-preserved : goal.runs-preserved
runs-preserved g c =
    let h = here g (goal.at.runs-preserved g c).After-index-as_slice-number in
    rw (c.in_ok-push.ensures.items, c.from-low.ensures)
    (stepping-more (g.W.Walk.after c.args.walk.now) (get_or c.args.places.now c.args.number (g.W.Walk.start c.args.walk.now)) c.args.places.now c.runs.places c.reach.new.places c.args.meter.now.made c.runs.meter.made c.reach.new.meter.made c.args.meter.now.limit c.runs.meter.limit c.reach.new.meter.limit c.runs.row.items c.runs.low c.runs.invariant c.runs-test.true c.in_ok-next.next c.run_end-last.result c.in_ok-to.to (c.in_ok-next.ensures ∙ ap (λ p. g.W.Walk.after c.args.walk.now p c.runs.low) h) c.run_end-last.ensures.within (omega arith)
    (λ other p q. ap (λ t. g.W.Walk.after c.args.walk.now t other) (sym h) ∙ c.run_end-last.ensures.alike other p q ∙ ap (λ t. g.W.Walk.after c.args.walk.now t c.runs.low) h)
    c.in_ok-to.ensures.ok c.reach.ensures.grown c.in_ok-to.ensures.counts c.reach.ensures.different c.reach.ensures.limit)

pub returns-clause-covers : goal.returns-clause-covers
returns-clause-covers g c = rw (c.in_ok-joined_row.ensures, c.as_slice-2.ensures.value) (stepping-covers (g.W.Walk.after c.args.walk.now) (get_or c.args.places.now c.args.number (g.W.Walk.start c.args.walk.now)) c.args.places.now c.runs.places c.args.meter.now.made c.runs.meter.made c.args.meter.now.limit c.runs.meter.limit c.runs.row.items c.runs.low c.runs.invariant c.runs-test.false)

pub returns-clause-targets : goal.returns-clause-targets
returns-clause-targets g c = rw (c.in_ok-joined_row.ensures, c.as_slice-2.ensures.value) (stepping-targets (g.W.Walk.after c.args.walk.now) (get_or c.args.places.now c.args.number (g.W.Walk.start c.args.walk.now)) c.args.places.now c.runs.places c.args.meter.now.made c.runs.meter.made c.args.meter.now.limit c.runs.meter.limit c.runs.row.items c.runs.low c.runs.invariant c.runs-test.false)

pub returns-clause-leads : goal.returns-clause-leads
returns-clause-leads g c = rw (c.in_ok-joined_row.ensures, c.as_slice-2.ensures.value) (stepping-leads (g.W.Walk.after c.args.walk.now) (get_or c.args.places.now c.args.number (g.W.Walk.start c.args.walk.now)) c.args.places.now c.runs.places c.args.meter.now.made c.runs.meter.made c.args.meter.now.limit c.runs.meter.limit c.runs.row.items c.runs.low c.runs.invariant c.runs-test.false)
