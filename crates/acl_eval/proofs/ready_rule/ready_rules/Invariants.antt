use Rattle.std.proofs.Common.{take}
use Rattle.acl_eval.specs.Preparation.{AreReadyRules}
use Rattle.match_eval.specs.Sets.{AreSetsOf}
use Rattle.waf_model.specs.declared.bundle.Bundle.{Bundle}
use Rattle.acl_eval.proofs.ready_rule.ready_rules.Given as goal

-- those so far are prepared
abbrev pub invariant-loop-rule : goal.invariant-loop-rule
invariant-loop-rule l = (bundle : Bundle) → AreSetsOf bundle l.sets → AreReadyRules bundle (take l.rule-index l.rules) l.readies.items
