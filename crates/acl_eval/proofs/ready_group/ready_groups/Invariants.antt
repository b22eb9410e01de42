use Rattle.std.proofs.Common.{take}
use Rattle.acl_eval.specs.Preparation.{AreReadyGroups}
use Rattle.match_eval.specs.Sets.{AreSetsOf}
use Rattle.waf_model.specs.declared.bundle.Bundle.{Bundle}
use Rattle.acl_eval.proofs.ready_group.ready_groups.Given as goal

-- those so far are prepared
abbrev pub invariant-loop-group : goal.invariant-loop-group
invariant-loop-group l = (bundle : Bundle) → AreSetsOf bundle l.sets → AreReadyGroups bundle (take l.group-index l.groups) l.readies.items
