use Rattle.std.proofs.Common.{◌≡◌, ◌++◌, length}
use Rattle.waf_model.specs.TransformEntities.{entities_decoded as entities_decoded_of}
use Rattle.text_transform.proofs.entities.entities_decoded.Given as goal

-- what is written and what the rest gives are what the text gives
abbrev pub invariant-loop-first : goal.invariant-loop-first
invariant-loop-first l = l.text.items ++ entities_decoded_of l.rest ≡ entities_decoded_of l.w

abbrev pub decreases-loop-first : goal.decreases-loop-first
decreases-loop-first l = length l.rest
