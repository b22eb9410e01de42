use Rattle.std.proofs.Common.{◌≡◌, map, take}
use Rattle.waf_model.specs.EffectiveActions.{effective_action}
use Rattle.group_override.proofs.overriding.effective.Given as goal

-- the actions of the rules so far
abbrev pub invariant-loop-rule : goal.invariant-loop-rule
invariant-loop-rule l = l.actions.items ≡ map (effective_action l.use_of) (take l.rule-index l.rule-items)
