-- What a web ACL decides of a request (AWS WAF Developer Guide, "How AWS WAF processes rules and rule groups in a web
-- ACL"): the first step that fires, doesn't count only and ends the evaluation, or the default action.
use Rattle.std.specs.Prelude.{◌≡◌, ℕ, ◌⊎◌, ◌↔◌, List, ◌∷◌, ◌++◌, reverse, AllPairs, IsTrue, false, Option, Some, None}
use Rattle.std.specs.Cmp.Lexicographic.{slice_cmp}
use Rattle.std.specs.Ordering.{is_lt, nat_cmp}
use Rattle.waf_model.specs.Firing.{Fires, Seen, end_of_tried}
use Rattle.waf_model.specs.LabelMatch.{IsAmong}
use Rattle.waf_model.specs.Steps.{Step, steps}
use Rattle.waf_model.specs.declared.answers.Answers.{Answers}
use Rattle.waf_model.specs.declared.action.Decision.{Decision}
use Rattle.waf_model.specs.declared.bundle.Bundle.{Bundle}
use Rattle.waf_model.specs.declared.outcome.Ender.TheVariants as enders
use Rattle.waf_model.specs.declared.outcome.Outcome.{Outcome}
use Rattle.waf_model.specs.declared.request.Request.{Request}

-- the step fires behind these steps, and ends the whole evaluation so
pub record Decides (bundle : Bundle) (request : Request) (answers : Answers) (before : List Step) (step : Step) (decision : Decision) : Type 0 where
  pub fires : Fires bundle request answers before step
  pub whole : step.counts_only ≡ false
  pub ends : end_of_tried bundle answers step.tried ≡ Some decision

-- none of the steps, the latest first, does
abbrev pub NoneDecides : Bundle → Request → Answers → List Step → Type 0
NoneDecides bundle request answers all = (before : List Step) → (step : Step) → (after : List Step) → (decision : Decision)
    → all ≡ after ++ step ∷ before → Decides bundle request answers before step decision → ⊥

-- the labels are those of the firing steps among these, each once, ascending by bytes
pub record AreLabels (bundle : Bundle) (request : Request) (answers : Answers) (fired : List Step) (labels : List (List ℕ)) : Type 0 where
  pub ascend : AllPairs (λ a b. IsTrue (is_lt (slice_cmp nat_cmp a b))) labels
  pub seen : (label : List ℕ) → IsAmong labels label ↔ Seen bundle request answers fired label

-- a step decides; `before` are those before it, the latest first
pub record StepDecides (bundle : Bundle) (request : Request) (answers : Answers) (outcome : Outcome) : Type 0 where
  pub before : List Step
  pub step : Step
  pub after : List Step
  pub stands : steps bundle ≡ reverse before ++ step ∷ after
  pub first : NoneDecides bundle request answers before
  pub decides : Decides bundle request answers before step outcome.decision
  pub ender : outcome.ender ≡ step.ender
  pub labels : AreLabels bundle request answers (step ∷ before) outcome.labels

-- no step decides, and the default action does
pub record DefaultDecides (bundle : Bundle) (request : Request) (answers : Answers) (outcome : Outcome) : Type 0 where
  pub none : NoneDecides bundle request answers (reverse (steps bundle))
  pub decision : outcome.decision ≡ bundle.acl.default
  pub ender : outcome.ender ≡ enders.Default
  pub labels : AreLabels bundle request answers (reverse (steps bundle)) outcome.labels

-- the outcome of the bundle's web ACL on the request, under the answers
abbrev pub IsOutcome : Bundle → Request → Answers → Outcome → Type 0
IsOutcome bundle request answers outcome = StepDecides bundle request answers outcome ⊎ DefaultDecides bundle request answers outcome
