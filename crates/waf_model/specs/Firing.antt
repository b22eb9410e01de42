-- Which steps of an evaluation fire, which labels were seen before, and what ends the evaluation (AWS WAF Developer Guide,
-- "How AWS WAF processes rules and rule groups in a web ACL"; that a rule that ends the evaluation adds its labels is this
-- project's own).
use Rattle.std.specs.Prelude.{ℕ, ◌≡◌, ◌⊎◌, List, [], ◌∷◌, Any, Bool, true, false, IsTrue, IsSome, if◌then◌else◌, Option, Some, None, unwrap_or, option_and_then, option_map}
use Rattle.std.specs.Option.{option_map_or}
use Rattle.waf_model.specs.Answered.{group_answer, token_answer}
use Rattle.waf_model.specs.Holds.{Holds}
use Rattle.waf_model.specs.Steps.{Step, Tried, rule, managed}
use Rattle.waf_model.specs.declared.action.Action.{Action}
use Rattle.waf_model.specs.declared.action.Action.TheVariants as actions
use Rattle.waf_model.specs.declared.action.Decision.{Decision}
use Rattle.waf_model.specs.declared.action.Decision.TheVariants as decisions
use Rattle.waf_model.specs.declared.answers.Answers.{Answers}
use Rattle.waf_model.specs.declared.answers.GroupAnswer.{GroupAnswer}
use Rattle.waf_model.specs.declared.answers.TokenKind.TheVariants as kinds
use Rattle.waf_model.specs.declared.answers.Verdict.{Verdict}
use Rattle.waf_model.specs.declared.answers.Verdict.TheVariants as verdicts
use Rattle.waf_model.specs.declared.bundle.Bundle.{Bundle}
use Rattle.waf_model.specs.declared.request.Request.{Request}
use Rattle.waf_model.specs.declared.rule.ManagedUse.{ManagedUse}
use Rattle.waf_model.specs.declared.statement.Statement.{Statement}

-- ---- what a step ends the evaluation with

-- the code that a verdict of a managed rule group blocks with
abbrev pub forbidden : ℕ
forbidden = 403

-- a CAPTCHA or a challenge, unless the token of that time is valid
abbrev pub unless_valid : Decision → Bool → Option Decision
unless_valid decision valid = if valid then None else Some decision

-- an action, with these times of its own: Count doesn't end the evaluation
abbrev pub end_of : Bundle → Answers → Option ℕ → Option ℕ → Action → Option Decision
end_of bundle answers captcha challenge actions.Allow = Some decisions.Allow
end_of bundle answers captcha challenge (actions.Block code) = Some (decisions.Block code)
end_of bundle answers captcha challenge actions.Count = None
end_of bundle answers captcha challenge actions.Captcha =
    unless_valid decisions.Captcha (token_answer answers (record { kind = kinds.Captcha; immunity = unwrap_or captcha bundle.acl.captcha }))
end_of bundle answers captcha challenge actions.Challenge =
    unless_valid decisions.Challenge (token_answer answers (record { kind = kinds.Challenge; immunity = unwrap_or challenge bundle.acl.challenge }))

-- the action that a verdict acts as; NONE acts as no match
abbrev pub action_of : Verdict → Action
action_of verdicts.Nothing = actions.Count
action_of verdicts.Allow = actions.Allow
action_of verdicts.Block = actions.Block forbidden
action_of verdicts.Captcha = actions.Captcha
action_of verdicts.Challenge = actions.Challenge

-- the verdict and the labels of a managed rule group
abbrev pub verdict_of : Answers → ManagedUse → Verdict
verdict_of answers use_of = option_map_or (λ answer. answer.verdict) (group_answer answers use_of.key) verdicts.Nothing

abbrev pub managed_labels : Answers → ManagedUse → List (List ℕ)
managed_labels answers use_of = option_map_or (λ answer. answer.labels) (group_answer answers use_of.key) []

-- what a step that fires ends the evaluation with, if it does; a managed rule group has the web ACL's times
abbrev pub end_of_tried : Bundle → Answers → Tried → Option Decision
end_of_tried bundle answers (rule statement action labels captcha challenge) = end_of bundle answers captcha challenge action
end_of_tried bundle answers (managed use_of) = end_of bundle answers None None (action_of (verdict_of answers use_of))

-- the labels that it adds
abbrev pub labels_of_tried : Answers → Tried → List (List ℕ)
labels_of_tried answers (rule statement action labels captcha challenge) = labels
labels_of_tried answers (managed use_of) = managed_labels answers use_of

-- ---- which steps fire

-- a statement that may be absent holds
abbrev pub HoldsIfThere : Bundle → Option Statement → Request → Answers → (List ℕ → Type 0) → List ℕ → Type 0
HoldsIfThere bundle None request answers seen namespace = Unit {0}
HoldsIfThere bundle (Some statement) request answers seen namespace = Holds bundle statement request answers seen namespace bundle.acl.body_limit

-- a rule's statement holds, or what a managed rule group is scoped down to, where these labels were seen
abbrev pub Matches : Bundle → Request → Answers → (List ℕ → Type 0) → List ℕ → Tried → Type 0
Matches bundle request answers seen namespace (rule statement action labels captcha challenge) =
    Holds bundle statement request answers seen namespace bundle.acl.body_limit
Matches bundle request answers seen namespace (managed use_of) = HoldsIfThere bundle use_of.scope_down request answers seen namespace

-- a step fires where no earlier one ended the evaluation for its rule, and it matches at the labels that were seen
abbrev pub FiresWhere : Bundle → Request → Answers → (ℕ → Type 0) → (List ℕ → Type 0) → Step → Type 0
FiresWhere bundle request answers ended seen step = (ended step.place → ⊥) × Matches bundle request answers seen step.namespace step.tried

-- Behind these steps, the latest first: `Seen`, a step that fired added the label; `Ended`, a step that fired ended the
-- evaluation for the rule at a place, which one that counts only does for its own rule alone.
abbrev mutual
  pub Seen : Bundle → Request → Answers → List Step → List ℕ → Type 0
  Seen bundle request answers [] label = ⊥
  Seen bundle request answers (step ∷ before) label =
      Seen bundle request answers before label
      ⊎ (FiresWhere bundle request answers (Ended bundle request answers before) (Seen bundle request answers before) step × Any (λ added. label ≡ added) (labels_of_tried answers step.tried))

  pub Ended : Bundle → Request → Answers → List Step → ℕ → Type 0
  Ended bundle request answers [] place = ⊥
  Ended bundle request answers (step ∷ before) place =
      Ended bundle request answers before place
      ⊎ (FiresWhere bundle request answers (Ended bundle request answers before) (Seen bundle request answers before) step
      × IsSome (end_of_tried bundle answers step.tried) × (IsTrue step.counts_only → step.place ≡ place))

-- the step fires behind these steps
abbrev pub Fires : Bundle → Request → Answers → List Step → Step → Type 0
Fires bundle request answers before step = FiresWhere bundle request answers (Ended bundle request answers before) (Seen bundle request answers before) step
