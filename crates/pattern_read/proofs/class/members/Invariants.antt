use Rattle.std.proofs.Common.{length}
use Rattle.pattern_read.proofs.MembersLemmas.{Reading}
use Rattle.pattern_read.proofs.class.members.Given as goal

abbrev pub invariant-loop-is_first : goal.invariant-loop-is_first
invariant-loop-is_first l = Reading l.fn.text l.rest l.is_first l.spans

abbrev pub decreases-loop-is_first : goal.decreases-loop-is_first
decreases-loop-is_first l = length l.rest
