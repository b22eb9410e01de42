use Rattle.std.proofs.Common.{take}
use Rattle.acl_eval.specs.Preparation.{IsReadyGroup}
use Rattle.acl_eval.proofs.Grouped.{IsGroupWalked}
use Rattle.acl_eval.proofs.walking.walked_rules.Given as goal

-- where the group is prepared, none of its rules so far ended the evaluation
abbrev pub invariant-loop-ready : goal.invariant-loop-ready
invariant-loop-ready l =
    IsReadyGroup l.case.bundle.now l.group
    → IsGroupWalked l.case.bundle.now l.case.request.now l.case.answers.now l.top l.use_of l.group.group.now (take l.ready-index l.group.group.now.rules) l.initial.labels l.labels
