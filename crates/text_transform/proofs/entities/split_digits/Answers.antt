use Rattle.std.proofs.Common.{◌≡◌, ◌<◌, length, ap, ◌∙◌, arith}
use Rattle.std.specs.Char.{digit_value}
use Rattle.text_transform.proofs.Digits.{digit_at, number_next, behind_next}
use Rattle.text_transform.proofs.entities.split_digits.Goals as goal

pub loop-first-preserved : goal.loop-first-preserved
loop-first-preserved c =
    let first = c.in-Some.ensures.cases.0 in
    let below : digit_value c.in-Some.first.now < c.args.base = rw c.from.ensures at c.in-Some-to_digit.ensures.value.0 in
    let value : c.in-Some-to_digit.digit ≡ digit_value c.in-Some.first.now = c.in-Some-to_digit.ensures.value.1 ∙ ap digit_value c.from.ensures in
    record {
      small = omega arith;
      number = number_next c.args.base c.loop-first.number c.in-Some-to_digit.digit c.in-Some.first.now c.loop-first.rest.now c.in-Some.next.now first below value
          ∙ c.loop-first.invariant.number;
      behind = behind_next c.args.base c.in-Some.first.now c.loop-first.rest.now c.in-Some.next.now first below ∙ c.loop-first.invariant.behind;
      count = omega (arith, c.loop-first.invariant.count, ap length (digit_at c.args.base c.in-Some.first.now c.loop-first.rest.now c.in-Some.next.now first below), ap length first);
    }
