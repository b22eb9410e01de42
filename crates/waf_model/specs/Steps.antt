-- What is tried in an evaluation, in order (AWS WAF Developer Guide, "Setting rule priority in a web ACL" and "Rule group
-- rule actions"): each plain rule, each rule of a group that is referred to, and each managed rule group.
use Rattle.std.specs.Prelude.{ℕ, List, [], ◌∷◌, ◌++◌, map, Bool, false, Option, Some, None, unwrap_or}
use Rattle.std.specs.List.{flat_map}
use Rattle.std.specs.Option.{option_map_or}
use Rattle.waf_model.specs.EffectiveActions.{effective_action}
use Rattle.waf_model.specs.References.{group_of}
use Rattle.waf_model.specs.declared.action.Action.{Action}
use Rattle.waf_model.specs.declared.bundle.Bundle.{Bundle}
use Rattle.waf_model.specs.declared.group.Group.{Group}
use Rattle.waf_model.specs.declared.outcome.Ender.{Ender}
use Rattle.waf_model.specs.declared.outcome.Ender.TheVariants as enders
use Rattle.waf_model.specs.declared.rule.GroupUse.{GroupUse}
use Rattle.waf_model.specs.declared.rule.ManagedUse.{ManagedUse}
use Rattle.waf_model.specs.declared.rule.Rule.{Rule}
use Rattle.waf_model.specs.declared.rule.Top.{Top}
use Rattle.waf_model.specs.declared.rule.Top.TheVariants as tops
use Rattle.waf_model.specs.declared.rule.TopRule.{TopRule}
use Rattle.waf_model.specs.declared.statement.Statement.{Statement}

-- a rule with its effective action, or a managed rule group
pub data Tried : Type 0 where
  rule : (statement : Statement) (action : Action) (labels : List (List ℕ)) (captcha challenge : Option ℕ) → Tried
  managed : (use_of : ManagedUse) → Tried

-- What is tried at a step: of which rule of the web ACL, by its place; with its labels behind the namespace in which its
-- keys stand; what is said of it where it ends the evaluation; and whether its rule's group counts only.
pub record Step : Type 0 where
  pub place : ℕ
  pub tried : Tried
  pub namespace : List ℕ
  pub ender : Ender
  pub counts_only : Bool

-- a rule whose action is that one, whose labels stand behind that namespace
abbrev pub tried_rule : List ℕ → Action → Rule → Tried
tried_rule namespace action r = rule r.statement action (map (λ label. namespace ++ label) r.labels) r.captcha r.challenge

-- a plain rule of the web ACL
abbrev pub plain_step : Bundle → TopRule → Rule → Step
plain_step bundle top r = record {
  place = top.place;
  tried = tried_rule bundle.acl.namespace r.action r;
  namespace = bundle.acl.namespace;
  ender = enders.Rule top.priority top.name;
  counts_only = false;
}

-- a rule of a group that the rule of the web ACL refers to
abbrev pub group_step : TopRule → GroupUse → Group → Rule → Step
group_step top use_of group r = record {
  place = top.place;
  tried = tried_rule group.namespace (effective_action use_of r) r;
  namespace = group.namespace;
  ender = enders.Inner top.priority top.name r.priority r.name;
  counts_only = use_of.count;
}

-- a managed rule group
abbrev pub managed_step : Bundle → TopRule → ManagedUse → Step
managed_step bundle top use_of = record {
  place = top.place;
  tried = managed use_of;
  namespace = bundle.acl.namespace;
  ender = enders.Rule top.priority top.name;
  counts_only = use_of.count;
}

-- the steps of a rule of the web ACL
abbrev pub steps_of : Bundle → TopRule → Top → List Step
steps_of bundle top (tops.Plain r) = plain_step bundle top r ∷ []
steps_of bundle top (tops.Group use_of) = option_map_or (λ group. map (group_step top use_of group) group.rules) (group_of bundle.groups use_of.arn) []
steps_of bundle top (tops.Managed use_of) = managed_step bundle top use_of ∷ []

-- all steps, in order
abbrev pub steps : Bundle → List Step
steps bundle = flat_map (λ top. steps_of bundle top top.body) bundle.acl.rules
