use Rattle.std.proofs.Common.{◌≡◌, ◌+◌, ◌*◌, ◌%◌, ◌<◌, length, drop}
use Rattle.std.specs.List.{fold}
use Rattle.waf_model.specs.TransformEntities.{leading_digits, number_of}
use Rattle.text_transform.proofs.entities.split_digits.Given as goal

-- the number so far and the digits of the rest stand for the number of all digits, modulo 256
abbrev pub invariant-loop-first : goal.invariant-loop-first
invariant-loop-first l = record {
  small : l.number < 256;
  number : fold (λ n d. n * l.base + d) l.number (leading_digits l.base l.rest) % 256 ≡ number_of l.base (leading_digits l.base l.text) % 256;
  behind : drop (length (leading_digits l.base l.rest)) l.rest ≡ drop (length (leading_digits l.base l.text)) l.text;
  count : length l.rest + length (leading_digits l.base l.text) ≡ length l.text + length (leading_digits l.base l.rest);
}

abbrev pub decreases-loop-first : goal.decreases-loop-first
decreases-loop-first l = length l.rest
