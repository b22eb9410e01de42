use Rattle.std.proofs.Common.{◌≡◌, ◌≤◌, ℕ, suc, ◌+◌, ◌-◌, ◌*◌, ◌<◌, ◌^◌, Bool, true, false, cond, List, refl, sym, subst, arith, add-one}
use Rattle.std.proofs.Math.Nat.{two-pow-succ, pow-le-pow_right}
use Rattle.waf_model.specs.PatternClasses.{Span, class_has, bits}
use Rattle.pattern_read.proofs.byte_class.half.Goals as goal

-- the number with one bit more at its low end
more_bits : (spans : List Span) (fold negated : Bool) (at next done number bit : ℕ) → at + 1 ≡ next →
    number ≡ bits spans fold negated next done → bit ≡ cond (class_has spans fold negated at) 1 0 →
    2 * number + bit ≡ bits spans fold negated at (suc done)
unfolding bits
more_bits spans fold negated at next done number bit follows rest is =
    let below : number ≡ bits spans fold negated (at + 1) done = subst (λ (x : ℕ). number ≡ bits spans fold negated x done) (sym follows) rest in
    omega (arith, below, is)

small : (b : Bool) (bit : ℕ) → bit ≡ cond b 1 0 → bit ≤ 1
small true bit is = omega arith
small false bit is = omega arith

doubled : (number bit done : ℕ) → number < 2 ^ done → bit ≤ 1 → 2 * number + bit < 2 ^ suc done
doubled number bit done fits one = let twice = two-pow-succ done in omega (arith, twice)

within : (number done : ℕ) → number < 2 ^ suc done → done < 128 → number < 2 ^ 128
within number done fits few =
    let most : 2 ^ suc done ≤ 2 ^ 128 = pow-le-pow_right {n = 2} (omega arith) {i = suc done} {j = 128} (omega arith) in omega (arith, most)

pub loop-done-init : goal.loop-done-init
unfolding bits
loop-done-init c = record { so_far = refl; fits = omega arith }

pub overflow_add-number : goal.overflow_add-number
overflow_add-number c =
    let fits : 2 * c.loop-done.number + c.bit.result < 2 ^ 128 =
    within _ _ (doubled c.loop-done.number c.bit.result c.loop-done.done c.loop-done.invariant.fits (small _ _ c.bit.ensures)) c.loop-done-test.true in
    omega arith

pub overflow_mul-number : goal.overflow_mul-number
overflow_mul-number c =
    let fits : 2 * c.loop-done.number + 0 < 2 ^ 128 =
    within _ _ (doubled c.loop-done.number 0 c.loop-done.done c.loop-done.invariant.fits (omega arith)) c.loop-done-test.true in
    omega arith

pub loop-done-preserved : goal.loop-done-preserved
loop-done-preserved c =
    let at : c.args.first + (127 - c.loop-done.done) ≡ c.args.first + (128 - suc c.loop-done.done) = omega arith in
    record {
      so_far = rw add-one (more_bits c.args.spans.now c.args.fold c.args.negated (c.args.first + (128 - suc c.loop-done.done))
          (c.args.first + (128 - c.loop-done.done)) c.loop-done.done c.loop-done.number c.bit.result (omega arith) c.loop-done.invariant.so_far
          (subst (λ (x : ℕ). c.bit.result ≡ cond (class_has c.args.spans.now c.args.fold c.args.negated x) 1 0) at c.bit.ensures));
      fits = rw add-one (doubled c.loop-done.number c.bit.result c.loop-done.done c.loop-done.invariant.fits (small _ _ c.bit.ensures));
    }
