use Rattle.std.proofs.Common.{◌≡◌, ℕ, suc, ◌+◌, true, false, get_or, refl, subst, arith, add-one}
use Rattle.std.proofs.lemmas.Option.{slice_get-get_or}
use Rattle.pattern_match.specs.declared.place.Step.{Step}
use Rattle.pattern_match.specs.Marks.{marked}
use Rattle.pattern_match.specs.Places.{IsPlace}
use Rattle.pattern_match.specs.Traces.{parts}
use Rattle.pattern_match.proofs.Marking.{still}
use Rattle.pattern_match.proofs.Searching.{Searched, searched_first, found_by, next_by, nowhere, everywhere}
use Rattle.pattern_match.proofs.finding.Search.found_in.Goals as goal

pub returns-then-ends_at : goal.returns-then-ends_at
returns-then-ends_at c p is =
    let taken : Step = record { before = c.of-before.result; byte = 0; place = c.of-before.result } in
    let first = searched_first p c.args.text.now c.args.self.now.matcher c.of-before.result is.matcher_is in (
      λ h. found_by p c.args.text.now c.args.self.now.matcher still (parts c.advance.new.trace) 0 false taken c.in_ok-through.through c.ends_at.result
          first tt c.of-before.ensures nowhere (omega arith) (c.in_ok-through.ensures is.matcher_is.sound) (c.ends_at.ensures is.matcher_is.sound) c.if-ends_at.true,
      λ h. refl,
    )

pub loop-at-init : goal.loop-at-init
loop-at-init c p is =
    let taken : Step = record { before = c.of-before.result; byte = 0; place = c.of-before.result } in
    let first = searched_first p c.args.text.now c.args.self.now.matcher c.of-before.result is.matcher_is in
    next_by p c.args.text.now c.args.self.now.matcher still (parts c.advance.new.trace) 0 false taken c.in_ok-through.through c.ends_at.result
    first tt c.of-before.ensures nowhere (c.in_ok-through.ensures is.matcher_is.sound) (c.ends_at.ensures is.matcher_is.sound) c.if-ends_at.false

pub returns-then-ends_at-2 : goal.returns-then-ends_at-2
returns-then-ends_at-2 c p is =
    let taken : Step = record { before = c.loop-at.before; byte = get_or c.args.text.now c.loop-at.at 0; place = c.of-place.result } in
    let so = subst (λ (t : ℕ). Searched p c.args.text.now (marked c.args.self.now.matcher (parts c.loop-at.trace) c.loop-at.before) t)
    (add-one c.loop-at.at) (c.loop-at.invariant p is) in
    let place = subst (λ (t : ℕ). IsPlace c.args.text.now t c.of-place.result) (add-one c.loop-at.at) c.of-place.ensures in (
      λ h. found_by p c.args.text.now c.args.self.now.matcher (parts c.loop-at.trace) (parts c.advance-in-loop-at.new.trace) (suc c.loop-at.at) true
          taken c.in_ok-through-2.through c.ends_at-in-loop-at.result so (slice_get-get_or c.args.text.now c.loop-at.at 0 (omega arith)) place
          (everywhere c.loop-at.at) (omega arith) (c.in_ok-through-2.ensures is.matcher_is.sound) (c.ends_at-in-loop-at.ensures is.matcher_is.sound) c.if-ends_at-2.true,
      λ h. refl,
    )

pub loop-at-preserved : goal.loop-at-preserved
loop-at-preserved c p is =
    let taken : Step = record { before = c.loop-at.before; byte = get_or c.args.text.now c.loop-at.at 0; place = c.of-place.result } in
    let so = subst (λ (t : ℕ). Searched p c.args.text.now (marked c.args.self.now.matcher (parts c.loop-at.trace) c.loop-at.before) t)
    (add-one c.loop-at.at) (c.loop-at.invariant p is) in
    let place = subst (λ (t : ℕ). IsPlace c.args.text.now t c.of-place.result) (add-one c.loop-at.at) c.of-place.ensures in
    let next = next_by p c.args.text.now c.args.self.now.matcher (parts c.loop-at.trace) (parts c.advance-in-loop-at.new.trace) (suc c.loop-at.at) true
    taken c.in_ok-through-2.through c.ends_at-in-loop-at.result so (slice_get-get_or c.args.text.now c.loop-at.at 0 (omega arith)) place
    (everywhere c.loop-at.at) (c.in_ok-through-2.ensures is.matcher_is.sound) (c.ends_at-in-loop-at.ensures is.matcher_is.sound) c.if-ends_at-2.false in
    let counts : suc (suc c.loop-at.at) ≡ c.loop-at.at + 1 + 1 = omega arith in
    subst (λ (t : ℕ). Searched p c.args.text.now (marked c.args.self.now.matcher (parts c.advance-in-loop-at.new.trace) c.of-place.result) t)
    counts next
