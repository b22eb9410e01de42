use Rattle.std.proofs.Common.{map, ◌≤◌, length, drop}
use Rattle.waf_model.specs.Pattern.{Expression, expression, all_of, any_of}
use Rattle.pattern_match.specs.Shapes.{IsMatcherOf, copies, up_to, unrolled}
use Rattle.pattern_match.proofs.builder.+build.Given as goal

abbrev pub invariant-choice-loop-rest : goal.invariant-choice-loop-rest
invariant-choice-loop-rest l = record {
  within : l.rest ≤ length l.parts;
  built : IsMatcherOf (unrolled (any_of (map expression (drop l.rest l.parts)))) l.matcher;
}

abbrev pub decreases-choice-loop-rest : goal.decreases-choice-loop-rest
decreases-choice-loop-rest l = l.rest

abbrev pub invariant-copied-loop : goal.invariant-copied-loop
invariant-copied-loop l =
    (b : Expression) → IsMatcherOf b l.fn.rest → IsMatcherOf (copies l.counter (unrolled (expression l.inner)) b) l.matcher

abbrev pub invariant-optional-loop : goal.invariant-optional-loop
invariant-optional-loop l = IsMatcherOf (up_to l.counter (unrolled (expression l.inner))) l.matcher

abbrev pub invariant-sequence-loop-rest : goal.invariant-sequence-loop-rest
invariant-sequence-loop-rest l = record {
  within : l.rest ≤ length l.parts;
  built : IsMatcherOf (unrolled (all_of (map expression (drop l.rest l.parts)))) l.matcher;
}

abbrev pub decreases-sequence-loop-rest : goal.decreases-sequence-loop-rest
decreases-sequence-loop-rest l = l.rest
