use Rattle.std.proofs.Common.{take}
use Rattle.acl_eval.specs.Preparation.{AreReadyTops}
use Rattle.match_eval.specs.Sets.{AreSetsOf}
use Rattle.waf_model.specs.declared.bundle.Bundle.{Bundle}
use Rattle.acl_eval.proofs.ready_top.ready_tops.Given as goal

-- those so far are prepared
abbrev pub invariant-loop-top : goal.invariant-loop-top
invariant-loop-top l = (bundle : Bundle) → AreSetsOf bundle l.sets → AreReadyTops bundle (take l.top-index l.tops) l.readies.items
