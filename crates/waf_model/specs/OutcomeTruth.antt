-- What a web ACL decides of a request, by truth values over lists of labels: `Firing` and `Outcome`, step by step (this
-- project's own).
use Rattle.std.specs.Prelude.{ℕ, List, [], ◌∷◌, ◌++◌, fold, reverse, Bool, true, false, not, ◌&&◌, ◌||◌, ◌==◌, if◌then◌else◌, is_some, Option, Some, None}
use Rattle.std.specs.BTreeSet.{insert_key}
use Rattle.std.specs.Cmp.Lexicographic.{slice_cmp}
use Rattle.std.specs.Option.{option_map_or}
use Rattle.std.specs.Ordering.{nat_cmp}
use Rattle.waf_model.specs.Firing.{end_of_tried, labels_of_tried}
use Rattle.waf_model.specs.HoldsTruth.{statement_holds}
use Rattle.waf_model.specs.Steps.{Step, Tried, rule, managed, steps}
use Rattle.waf_model.specs.declared.action.Decision.{Decision}
use Rattle.waf_model.specs.declared.answers.Answers.{Answers}
use Rattle.waf_model.specs.declared.bundle.Bundle.{Bundle}
use Rattle.waf_model.specs.declared.outcome.Ender.{Ender}
use Rattle.waf_model.specs.declared.outcome.Ender.TheVariants as enders
use Rattle.waf_model.specs.declared.outcome.Outcome.{Outcome}
use Rattle.waf_model.specs.declared.request.Request.{Request}
use Rattle.waf_model.specs.declared.statement.Statement.{Statement}

-- ---- which steps fire

-- a rule's statement holds, or what a managed rule group is scoped down to, if it is, where these labels were added before
abbrev pub matches : Bundle → Request → Answers → List (List ℕ) → List ℕ → Tried → Bool
matches bundle request answers labels namespace (rule statement action own captcha challenge) =
    statement_holds bundle statement request answers labels namespace bundle.acl.body_limit
matches bundle request answers labels namespace (managed use_of) =
    option_map_or (λ scope. statement_holds bundle scope request answers labels namespace bundle.acl.body_limit) use_of.scope_down true

-- a step fires where no earlier one ended the evaluation for its rule, and it matches at the labels that were added
abbrev pub fires_where : Bundle → Request → Answers → (ℕ → Bool) → List (List ℕ) → Step → Bool
fires_where bundle request answers ended labels step = not (ended step.place) && matches bundle request answers labels step.namespace step.tried

-- Behind these steps, the latest first: the labels that were added, and whether the evaluation has ended for the rule at a
-- place.
abbrev mutual
  pub labels_behind : Bundle → Request → Answers → List Step → List (List ℕ)
  labels_behind bundle request answers [] = []
  labels_behind bundle request answers (step ∷ before) =
      labels_behind bundle request answers before
      ++ (if fires_where bundle request answers (has_ended bundle request answers before) (labels_behind bundle request answers before) step
      then labels_of_tried answers step.tried else [])

  pub has_ended : Bundle → Request → Answers → List Step → ℕ → Bool
  has_ended bundle request answers [] place = false
  has_ended bundle request answers (step ∷ before) place =
      has_ended bundle request answers before place
      || (fires_where bundle request answers (has_ended bundle request answers before) (labels_behind bundle request answers before) step
      && (is_some (end_of_tried bundle answers step.tried) && (not step.counts_only || step.place == place)))

-- the step fires behind these steps
abbrev pub fires : Bundle → Request → Answers → List Step → Step → Bool
fires bundle request answers before step = fires_where bundle request answers (has_ended bundle request answers before) (labels_behind bundle request answers before) step

-- ---- what decides

-- the decision with which the step ends the whole evaluation behind these steps, if it does
abbrev pub decision_at : Bundle → Request → Answers → List Step → Step → Option Decision
decision_at bundle request answers before step =
    if fires bundle request answers before step && not step.counts_only then end_of_tried bundle answers step.tried else None

-- a step that decides, the steps before it, the latest first, and its decision
pub record Deciding : Type 0 where
  pub before : List Step
  pub step : Step
  pub decision : Decision

-- the first of some steps that decides, behind those before them, the latest first
abbrev pub deciding_among : Bundle → Request → Answers → List Step → List Step → Option Deciding
deciding_among bundle request answers before [] = None
deciding_among bundle request answers before (step ∷ rest) =
    option_map_or (λ decision. Some (record { before = before; step = step; decision = decision }))
    (decision_at bundle request answers before step) (deciding_among bundle request answers (step ∷ before) rest)

-- the first step of the web ACL that decides
abbrev pub deciding : Bundle → Request → Answers → Option Deciding
deciding bundle request answers = deciding_among bundle request answers [] (steps bundle)

-- ---- the outcome

-- its decision, or the default action
abbrev pub decision_of : Bundle → Option Deciding → Decision
decision_of bundle None = bundle.acl.default
decision_of bundle (Some found) = found.decision

-- what ended the evaluation: its rule, or the default action
abbrev pub ender_of : Option Deciding → Ender
ender_of None = enders.Default
ender_of (Some found) = found.step.ender

-- the steps that were tried, the latest first: up to and with it, or all
abbrev pub tried_steps : Bundle → Option Deciding → List Step
tried_steps bundle None = reverse (steps bundle)
tried_steps bundle (Some found) = found.step ∷ found.before

-- the labels, each once, ascending by bytes
abbrev pub each_once : List (List ℕ) → List (List ℕ)
each_once labels = fold (λ all label. insert_key (slice_cmp nat_cmp) all label) [] labels

-- the outcome in which it ends the evaluation
abbrev pub outcome_by : Bundle → Request → Answers → Option Deciding → Outcome
outcome_by bundle request answers found = record {
  decision = decision_of bundle found;
  ender = ender_of found;
  labels = each_once (labels_behind bundle request answers (tried_steps bundle found));
}

-- the outcome of the bundle's web ACL on the request, under the answers
abbrev pub outcome_of : Bundle → Request → Answers → Outcome
outcome_of bundle request answers = outcome_by bundle request answers (deciding bundle request answers)
