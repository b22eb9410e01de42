use Rattle.std.proofs.Common.{◌≡◌, ◌<◌, [], length, arith, sym, ap, ◌∙◌, subst}
use Rattle.std.specs.List.{All}
use Rattle.std.proofs.lemmas.Bool.{eqb-true, eqb-false}
use Rattle.byte_automata.specs.Splitting.{Adds, IsSourceOfWaiting, AreGroups, IsSplit, AllButOneWait}
use Rattle.byte_automata.proofs.Parting.{parts-noted}
use Rattle.byte_automata.proofs.Splitting.{splitting-start, splitting-done, splitting-more, marked-within}
use Rattle.byte_automata.proofs.classes.residual_classes.Goals as goal
use Rattle.byte_automata.proofs.classes.residual_classes.Goals.{After-as_slice-marked, After-waiting_of}

marks : (c : After-as_slice-marked) → Adds (IsSourceOfWaiting c.rounds.parts.of.items c.rounds.parts.members c.in_ok-sources.sources c.rounds.waiting.items) [] c.in_ok-marked.marked
marks c = subst (λ t. Adds (IsSourceOfWaiting c.rounds.parts.of.items c.rounds.parts.members c.in_ok-sources.sources t) [] c.in_ok-marked.marked) c.as_slice.ensures.value c.in_ok-marked.ensures

within : (c : After-as_slice-marked) → All (λ state. state < length c.args.dfa.now.states) c.as_slice-marked.result.now
within c =
    subst (All (λ state. state < length c.args.dfa.now.states)) (sym c.as_slice-marked.ensures)
    (marked-within c.args.dfa.now c.states-states.ensures.whole c.in_ok-sources.sources c.rounds.parts.of.items c.rounds.parts.members c.rounds.parts.sizes c.rounds.count c.rounds.waiting.items c.in_ok-marked.marked c.in_ok-sources.ensures c.rounds.invariant (marks c))

pub rounds-init : goal.rounds-init
rounds-init c =
    rw c.in_ok-waiting.ensures.items (splitting-start c.args.dfa.now c.states-states.ensures.whole c.in_ok-parts.parts.of.items c.in_ok-parts.parts.members c.in_ok-parts.parts.sizes c.in_ok-parts.ensures.parts c.in_ok-parts.ensures.coarse)

pub marked_states-requires-clause-within : goal.marked_states-requires-clause-within
marked_states-requires-clause-within c = λ list state h. omega (arith, c.rounds.invariant.parts.within list state h, c.rounds.invariant.parts.lengths)

pub returns-then-is_empty-clause-classes : goal.returns-then-is_empty-clause-classes
returns-then-is_empty-clause-classes c =
    let at = (goal.at.returns-then-is_empty-clause-classes c).After-as_slice-marked in
    let none : length c.in_ok-marked.marked ≡ 0 = sym (ap length c.as_slice-marked.ensures) ∙ eqb-true (length c.as_slice-marked.result.now) 0 (sym c.is_empty.ensures ∙ c.if-is_empty.true) in
    splitting-done c.args.dfa.now c.states-states.ensures.whole c.in_ok-sources.sources c.rounds.parts.of.items c.rounds.parts.members c.rounds.parts.sizes c.rounds.count c.rounds.waiting.items c.in_ok-marked.marked c.in_ok-sources.ensures c.rounds.invariant (marks at) none

pub groups_of-requires-clause-marked : goal.groups_of-requires-clause-marked
groups_of-requires-clause-marked c = within (goal.at.groups_of-requires-clause-marked c).After-as_slice-marked

pub split-requires-clause-marked : goal.split-requires-clause-marked
split-requires-clause-marked c = rw c.states-states.ensures.count (within (goal.at.split-requires-clause-marked c).After-as_slice-marked)

found : (c : After-waiting_of) → AreGroups c.args.dfa.now c.rounds.parts.of.items c.in_ok-marked.marked c.in_ok-groups.groups.of.items c.in_ok-groups.groups.kinds
found c =
    let groups = c.in_ok-groups.groups.of.items in
    let kinds = c.in_ok-groups.groups.kinds in
    subst (λ t. AreGroups c.args.dfa.now c.rounds.parts.of.items t groups kinds) c.as_slice-marked.ensures
    (subst (λ t. AreGroups c.args.dfa.now t c.as_slice-marked.result.now groups kinds) c.as_slice-in-rounds.ensures.value c.in_ok-groups.ensures.groups)

parted : (c : After-waiting_of) → IsSplit c.rounds.parts.of.items c.split.new.parts.of.items c.in_ok-marked.marked c.in_ok-groups.groups.of.items c.rounds.count
parted c =
    let after = c.split.new.parts.of.items in
    let groups = c.in_ok-groups.groups.of.items in
    subst (λ t. IsSplit t after c.in_ok-marked.marked groups c.rounds.count) c.in_ok-grow.ensures.same
    (subst (λ t. IsSplit c.grow.new.parts.of.items after t groups c.rounds.count) c.as_slice-marked.ensures
    (subst (λ t. IsSplit c.grow.new.parts.of.items after c.as_slice-marked.result.now t c.rounds.count) c.as_slice-in-rounds-2.ensures.value c.in_ok-split.ensures.split))

pub rounds-smaller : goal.rounds-smaller
rounds-smaller c =
    let at = (goal.at.rounds-smaller c).After-waiting_of in
    let marked = c.as_slice-marked.result.now in
    let some : length marked ≡ 0 → ⊥ = eqb-false (length marked) 0 (sym c.is_empty.ensures ∙ c.if-is_empty.false) in
    let same : length marked ≡ length c.in_ok-marked.marked = ap length c.as_slice-marked.ensures in
    let g = found at in
    let first = g.below 0 0 (omega (arith, g.lengths, some, same)) in
    let kinds : length c.as_slice-kinds.result.now ≡ length c.in_ok-groups.groups.kinds = ap length c.as_slice-kinds.ensures in
    omega (arith, c.in-Some.ensures.0, c.in-Some.ensures.1, kinds, first)

pub rounds-preserved : goal.rounds-preserved
rounds-preserved c =
    let at = (goal.at.rounds-preserved c).After-waiting_of in
    let d = c.args.dfa.now in
    let old = c.rounds.parts in
    let new = c.split.new.parts in
    let kinds = c.in_ok-groups.groups.kinds in
    let waiting = c.in_ok-waiting-2.waiting.items in
    let p = parts-noted c.states-states.result (length d.states) c.in-Some.next new.of.items new.members new.sizes c.note_largest.new.sizes c.states-states.ensures.count c.note_largest.ensures c.in_ok-split.ensures.parts in
    let wait = subst (λ t. AllButOneWait t c.rounds.count waiting) c.as_slice-kinds.ensures c.in_ok-waiting-2.ensures.wait in
    let below = subst (λ n. All (λ class. class < n) waiting) p.sized c.in_ok-waiting-2.ensures.below in
    splitting-more d c.states-states.ensures.whole c.in_ok-sources.sources old.of.items old.members old.sizes c.rounds.count c.rounds.waiting.items c.in_ok-marked.marked c.in_ok-sources.ensures c.rounds.invariant (marks (goal.at.rounds-preserved c).After-as_slice-marked)
    c.in_ok-groups.groups.of.items kinds new.of.items new.members c.note_largest.new.sizes c.in-Some.next waiting (found at) (parted at) p wait below
