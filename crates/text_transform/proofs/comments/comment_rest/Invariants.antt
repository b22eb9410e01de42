use Rattle.std.proofs.Common.{◌≡◌, ◌+◌, ◌≤◌, length}
use Rattle.waf_model.specs.TransformComments.{comment_rest as comment_rest_of}
use Rattle.text_transform.proofs.comments.comment_rest.Given as goal

-- what is passed and what the comment has of the rest are what it has of the text
abbrev pub invariant-loop-next : goal.invariant-loop-next
invariant-loop-next l = record {
  within : length l.rest ≤ length l.behind;
  count : comment_rest_of l.rest + length l.behind ≡ comment_rest_of l.behind + length l.rest;
}

abbrev pub decreases-loop-next : goal.decreases-loop-next
decreases-loop-next l = length l.rest
