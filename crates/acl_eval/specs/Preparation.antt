-- What is prepared of a web ACL (this project's own): each rule beside its prepared statement, for the web ACL and for each
-- rule group of the bundle.
use Rattle.std.specs.Prelude.{◌≡◌, List, map, All, Option, Some, None}
use Rattle.acl_eval.specs.declared.prepared.Prepared.{Prepared}
use Rattle.acl_eval.specs.declared.ready_group.ReadyGroup.{ReadyGroup}
use Rattle.acl_eval.specs.declared.ready_rule.ReadyRule.{ReadyRule}
use Rattle.acl_eval.specs.declared.ready_top.ReadyBody.{ReadyBody}
use Rattle.acl_eval.specs.declared.ready_top.ReadyBody.TheVariants as bodies
use Rattle.acl_eval.specs.declared.ready_top.ReadyTop.{ReadyTop}
use Rattle.match_eval.specs.Sets.{IsReadyFor}
use Rattle.match_eval.specs.declared.ready.Ready.{Ready}
use Rattle.waf_model.specs.declared.bundle.Bundle.{Bundle}
use Rattle.waf_model.specs.declared.group.Group.{Group}
use Rattle.waf_model.specs.declared.rule.Rule.{Rule}
use Rattle.waf_model.specs.declared.rule.Top.{Top}
use Rattle.waf_model.specs.declared.rule.Top.TheVariants as tops
use Rattle.waf_model.specs.declared.rule.TopRule.{TopRule}
use Rattle.waf_model.specs.declared.statement.Statement.{Statement}

-- these are the things, in their order, each with what is prepared of it
pub record AreReady {A R : Type 0} (thing : R → A) (IsReady : R → Type 0) (things : List A) (readies : List R) : Type 0 where
  pub are : map thing readies ≡ things
  pub each : All IsReady readies

-- the rule's statement is prepared
abbrev pub IsReadyRule : Bundle → ReadyRule → Type 0
IsReadyRule bundle ready = IsReadyFor bundle ready.rule.now.statement ready.statement

-- these are the rules, in their order, each prepared
abbrev pub AreReadyRules : Bundle → List Rule → List ReadyRule → Type 0
AreReadyRules bundle rules readies = AreReady (λ ready. ready.rule.now) (IsReadyRule bundle) rules readies

-- the group's rules are prepared
abbrev pub IsReadyGroup : Bundle → ReadyGroup → Type 0
IsReadyGroup bundle ready = AreReadyRules bundle ready.group.now.rules ready.rules.items

-- these are the groups, in their order, each prepared
abbrev pub AreReadyGroups : Bundle → List Group → List ReadyGroup → Type 0
AreReadyGroups bundle groups readies = AreReady (λ ready. ready.group.now) (IsReadyGroup bundle) groups readies

-- the statement that a managed rule group is scoped down to is prepared, if there is one
abbrev pub IsReadyScope : Bundle → Option Statement → Option Ready → Type 0
IsReadyScope bundle scope_down None = scope_down ≡ None
IsReadyScope bundle scope_down (Some ready) = (statement : Statement) × (scope_down ≡ Some statement) × IsReadyFor bundle statement ready

-- what a rule of the web ACL is, is prepared; of a reference to a rule group nothing is, since the group itself is
abbrev pub IsReadyBody : Bundle → Top → ReadyBody → Type 0
IsReadyBody bundle body (bodies.Plain ready) = (body ≡ tops.Plain ready.rule.now) × IsReadyRule bundle ready
IsReadyBody bundle body (bodies.Group use_of) = body ≡ tops.Group use_of.now
IsReadyBody bundle body (bodies.Managed use_of scope_down) = (body ≡ tops.Managed use_of.now) × IsReadyScope bundle use_of.now.scope_down scope_down

-- the rule of the web ACL is prepared
abbrev pub IsReadyTop : Bundle → ReadyTop → Type 0
IsReadyTop bundle ready = IsReadyBody bundle ready.top.now.body ready.body

-- these are the rules of the web ACL, in their order, each prepared
abbrev pub AreReadyTops : Bundle → List TopRule → List ReadyTop → Type 0
AreReadyTops bundle tops readies = AreReady (λ ready. ready.top.now) (IsReadyTop bundle) tops readies

-- the bundle's web ACL is prepared so, with all rule groups of the bundle
pub record IsPreparedFor (bundle : Bundle) (prepared : Prepared) : Type 0 where
  pub bundle_is : prepared.bundle.now ≡ bundle
  pub rules : AreReadyTops bundle bundle.acl.rules prepared.rules.items
  pub groups : AreReadyGroups bundle bundle.groups prepared.groups.items
