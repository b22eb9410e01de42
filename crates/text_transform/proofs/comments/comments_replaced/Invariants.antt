use Rattle.std.proofs.Common.{◌≡◌, ◌++◌, length}
use Rattle.waf_model.specs.TransformComments.{comments_replaced as comments_replaced_of}
use Rattle.text_transform.proofs.comments.comments_replaced.Given as goal

-- what is written and what the rest gives are what the text gives
abbrev pub invariant-loop-first : goal.invariant-loop-first
invariant-loop-first l = l.text.items ++ comments_replaced_of l.rest ≡ comments_replaced_of l.w

abbrev pub decreases-loop-first : goal.decreases-loop-first
decreases-loop-first l = length l.rest
