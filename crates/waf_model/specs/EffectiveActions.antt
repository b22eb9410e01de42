-- Which action a rule of a rule group has where a web ACL refers to the group (API fields `RuleActionOverrides` and
-- `ExcludedRules`; that overrides are looked at first, and that one for an unknown rule counts for nothing, is this
-- project's own).
use Rattle.std.specs.Prelude.{ℕ, List, find, Option, Some, None, if◌then◌else◌}
use Rattle.std.specs.List.{list_any}
use Rattle.std.specs.Option.{option_map_or}
use Rattle.std.specs.Str.{bytes_eq}
use Rattle.waf_model.specs.declared.action.Action.{Action}
use Rattle.waf_model.specs.declared.action.Action.TheVariants as actions
use Rattle.waf_model.specs.declared.rule.GroupUse.{GroupUse}
use Rattle.waf_model.specs.declared.rule.Override.{Override}
use Rattle.waf_model.specs.declared.rule.Rule.{Rule}

-- the rule's own action, or Count where it is excluded
abbrev pub unless_excluded : GroupUse → Rule → Action
unless_excluded use_of rule = if list_any (λ name. bytes_eq name rule.name) use_of.excluded then actions.Count else rule.action

-- that of the first override with its name, and else that
abbrev pub effective_action : GroupUse → Rule → Action
effective_action use_of rule = option_map_or (λ override. override.action) (find (λ override. bytes_eq override.name rule.name) use_of.overrides) (unless_excluded use_of rule)
