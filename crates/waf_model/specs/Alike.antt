-- Two revisions of a web ACL decide alike, or a request and answers part them (this project's own).
use Rattle.std.specs.Prelude.{[], ℕ, ◌≡◌, ◌≢◌, codes, min, All, IsTrue}
use Rattle.std.specs.List.{starts_with}
use Rattle.std.specs.Prelude.{◌==◌}
use Rattle.waf_model.specs.Outcome.{IsOutcome}
use Rattle.waf_model.specs.Within.{Within}
use Rattle.waf_model.specs.declared.action.Decision.{Decision}
use Rattle.waf_model.specs.declared.answers.Answers.{Answers}
use Rattle.waf_model.specs.declared.bundle.Bundle.{Bundle}
use Rattle.waf_model.specs.declared.outcome.Outcome.{Outcome}
use Rattle.waf_model.specs.declared.request.Request.{Request}

-- every label that an answer of a managed group adds begins `awswaf:managed:` (this project's own)
abbrev pub IsLawful : Answers → Type 0
IsLawful answers = All (λ group. All (λ label. IsTrue (starts_with ◌==◌ label (codes "awswaf:managed:"))) group.labels) answers.groups

-- no answer to any question
abbrev pub no_answers : Answers
no_answers = record { statements = []; groups = []; tokens = [] }

-- the body limit of a pair: the lesser of the two
abbrev pub pair_limit : Bundle → Bundle → ℕ
pair_limit old new = min old.acl.body_limit new.acl.body_limit

-- the web ACL decides so
abbrev pub Decides : Bundle → Request → Answers → Decision → Type 0
Decides bundle request answers decision = (outcome : Outcome) × IsOutcome bundle request answers outcome × (outcome.decision ≡ decision)

-- on every request within the limits, and under all common lawful answers, the decisions are equal, codes included
abbrev pub Alike : Bundle → Bundle → Type 0
Alike old new = (request : Request) (answers : Answers) (d e : Decision) → Within request (pair_limit old new) → IsLawful answers
    → Decides old request answers d → Decides new request answers e → d ≡ e

-- the request is within the limits, the answers are lawful, and under them the one decides d and the other e, another decision
pub record Parts (old new : Bundle) (request : Request) (answers : Answers) (d e : Decision) : Type 0 where
  pub within : Within request (pair_limit old new)
  pub lawful : IsLawful answers
  pub old_decides : Decides old request answers d
  pub new_decides : Decides new request answers e
  pub differ : d ≢ e
