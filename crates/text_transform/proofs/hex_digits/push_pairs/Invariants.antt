use Rattle.std.proofs.Common.{◌≡◌, ◌*◌, ◌++◌, length, drop}
use Rattle.waf_model.specs.TransformHex.{leading_pairs, is_pairs}
use Rattle.text_transform.proofs.hex_digits.push_pairs.Given as goal

-- what is written and the pairs of the rest are those of the text
abbrev pub invariant-loop-byte : goal.invariant-loop-byte
invariant-loop-byte l = record {
  written : l.bytes.items ++ leading_pairs l.rest ≡ l.fn.bytes.items ++ leading_pairs l.text;
  behind : drop (2 * length (leading_pairs l.rest)) l.rest ≡ drop (2 * length (leading_pairs l.text)) l.text;
  pairs : is_pairs l.rest ≡ is_pairs l.text;
}

abbrev pub decreases-loop-byte : goal.decreases-loop-byte
decreases-loop-byte l = length l.rest
