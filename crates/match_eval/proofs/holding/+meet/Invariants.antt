use Rattle.waf_model.specs.Holds.{all_of, any_of}
use Rattle.std.proofs.Common.{drop}
use Rattle.match_eval.proofs.Joined.{SameFrom}
use Rattle.match_eval.proofs.holding.+meet.Given as goal

-- all are met just where the rest is
abbrev pub invariant-all_met-loop-part : goal.invariant-all_met-loop-part
invariant-all_met-loop-part l = SameFrom all_of l.request l.answers l.seen l.context (drop l.part-index l.parts) l.parts

-- one is met just where one of the rest is
abbrev pub invariant-any_met-loop-part : goal.invariant-any_met-loop-part
invariant-any_met-loop-part l = SameFrom any_of l.request l.answers l.seen l.context (drop l.part-index l.parts) l.parts
