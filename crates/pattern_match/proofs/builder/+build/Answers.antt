use Rattle.std.proofs.Common.{refl, ◌≡◌, ℕ, ◌-◌, ◌<◌, ◌≤◌, suc, List, ◌∷◌, length, drop, get_or, map, arith, sym, subst, ◌∙◌, ap, drop-cons, add-one}
use Rattle.waf_model.specs.Pattern.{expression, all_of, any_of}
use Rattle.waf_model.specs.declared.pattern.Pattern.{Pattern}
use Rattle.pattern_match.specs.Shapes.{IsMatcherOf, copies, unrolled}
use Rattle.pattern_match.proofs.builder.+build.Goals as goal

-- the parts from the one before on
front : (parts : List Pattern) (rest : ℕ) (p : Pattern) → 0 < rest → rest ≤ length parts → p ≡ get_or parts (rest - 1) p →
    drop (rest - 1) parts ≡ p ∷ drop rest parts
front parts rest p above within is =
    let below : rest - 1 < length parts = omega arith in
    let next : suc (rest - 1) ≡ rest = omega arith in
    drop-cons parts (rest - 1) p below ∙ ap (λ (q : Pattern). q ∷ drop (suc (rest - 1)) parts) (sym is)
    ∙ ap (λ (n : ℕ). p ∷ drop n parts) next

pub choice-loop-rest-preserved : goal.choice-loop-rest-preserved
choice-loop-rest-preserved t c = record {
  within = omega arith;
  built = subst (λ (xs : List Pattern). IsMatcherOf (unrolled (any_of (map expression xs))) c.in_ok-matcher.matcher)
      (sym (front c.args.parts.now c.loop-rest.rest c.index-parts-rest.result (omega arith) c.loop-rest.invariant.within c.index-parts-rest.is))
      (c.in_ok-matcher.ensures _ _ c.in_ok-matcher_of.ensures c.loop-rest.invariant.built);
}

pub sequence-loop-rest-preserved : goal.sequence-loop-rest-preserved
sequence-loop-rest-preserved t c = record {
  within = omega arith;
  built = subst (λ (xs : List Pattern). IsMatcherOf (unrolled (all_of (map expression xs))) c.in_ok-matcher.matcher)
      (sym (front c.args.parts.now c.loop-rest.rest c.index-parts-rest.result (omega arith) c.loop-rest.invariant.within c.index-parts-rest.is))
      (c.in_ok-matcher.ensures _ _ c.in_ok-matcher_of.ensures c.loop-rest.invariant.built);
}

pub copied-loop-preserved : goal.copied-loop-preserved
copied-loop-preserved t c = λ b rest.
    rw add-one (c.in_ok-matcher.ensures _ _ c.in_ok-matcher_of.ensures (c.loop.invariant b rest))

pub copied-returns : goal.copied-returns
copied-returns t c =
    let whole : c.loop.counter ≡ c.args.count = omega arith in
    λ b rest. subst (λ (n : ℕ). IsMatcherOf (copies n (unrolled (expression c.args.inner.now)) b) c.loop.matcher) whole (c.loop.invariant b rest)

pub optional-loop-preserved : goal.optional-loop-preserved
optional-loop-preserved t c =
    rw add-one (c.in_ok-matcher.ensures _ _ (record { shape_is = refl; sound = tt }) (c.in_ok-join.ensures _ _ c.in_ok-copy.ensures c.loop.invariant))
