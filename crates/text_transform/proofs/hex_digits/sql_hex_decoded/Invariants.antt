use Rattle.std.proofs.Common.{◌≡◌, ◌++◌, length}
use Rattle.waf_model.specs.TransformHex.{sql_hex_decoded as sql_hex_decoded_of}
use Rattle.text_transform.proofs.hex_digits.sql_hex_decoded.Given as goal

-- what is written and what the rest gives are what the text gives
abbrev pub invariant-loop-first : goal.invariant-loop-first
invariant-loop-first l = l.text.items ++ sql_hex_decoded_of l.rest ≡ sql_hex_decoded_of l.w

abbrev pub decreases-loop-first : goal.decreases-loop-first
decreases-loop-first l = length l.rest
