use Rattle.std.proofs.Common.{take}
use Rattle.parting_build.proofs.PathOnly.{AlikeAtNamed}
use Rattle.parting_build.proofs.revisions.tried_rules.Given as goal

-- the two decide alike at every path that the rules so far name
abbrev pub invariant-loop-rule : goal.invariant-loop-rule
invariant-loop-rule l = AlikeAtNamed l.old l.new (take l.rule-index l.rules)
