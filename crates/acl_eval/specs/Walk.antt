-- A walk over the steps of one rule of the web ACL (this project's own), where the steps before it, the latest first, did
-- not decide.
use Rattle.std.specs.Prelude.{◌≡◌, ◌↔◌, ℕ, List, ◌∷◌, ◌++◌, Option, Some, None, reverse}
use Rattle.acl_eval.specs.declared.case.End.{End}
use Rattle.waf_model.specs.Firing.{Ended, Seen}
use Rattle.waf_model.specs.LabelMatch.{IsAmong}
use Rattle.waf_model.specs.Outcome.{Decides, NoneDecides}
use Rattle.waf_model.specs.Steps.{Step}
use Rattle.waf_model.specs.declared.answers.Answers.{Answers}
use Rattle.waf_model.specs.declared.bundle.Bundle.{Bundle}
use Rattle.waf_model.specs.declared.request.Request.{Request}

-- behind these steps the labels are those that were seen, and none of the steps decides
pub record IsWalked (bundle : Bundle) (request : Request) (answers : Answers) (before : List Step) (labels : List (List ℕ)) : Type 0 where
  pub seen : (label : List ℕ) → IsAmong labels label ↔ Seen bundle request answers before label
  pub none : NoneDecides bundle request answers before

-- one of the steps decides, the first that does
pub record IsDecided (bundle : Bundle) (request : Request) (answers : Answers) (before steps : List Step) (labels : List (List ℕ)) (end : End) : Type 0 where
  pub passed : List Step
  pub step : Step
  pub rest : List Step
  pub stands : steps ≡ reverse passed ++ step ∷ rest
  pub none : NoneDecides bundle request answers (passed ++ before)
  pub decides : Decides bundle request answers (passed ++ before) step end.decision
  pub ender : end.ender ≡ step.ender
  pub seen : (label : List ℕ) → IsAmong labels label ↔ Seen bundle request answers (step ∷ passed ++ before) label

abbrev pub ComesTo : Bundle → Request → Answers → List Step → List Step → List (List ℕ) → Option End → Type 0
ComesTo bundle request answers before steps after None = IsWalked bundle request answers (reverse steps ++ before) after
ComesTo bundle request answers before steps after (Some end) = IsDecided bundle request answers before steps after end

-- Whatever stood before: where the labels were those seen then, and no step ended the evaluation for the rule at this
-- place, the walk over the steps comes to that.
abbrev pub IsWalk : Bundle → Request → Answers → ℕ → List Step → List (List ℕ) → List (List ℕ) → Option End → Type 0
IsWalk bundle request answers place steps labels after end =
    (before : List Step) → IsWalked bundle request answers before labels → (Ended bundle request answers before place → ⊥)
    → ComesTo bundle request answers before steps after end
