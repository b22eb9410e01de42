-- One step more: which labels were seen behind it, whether it decides, and for which rules the evaluation ended.
use Rattle.std.proofs.Common.{◌≡◌, ℕ, ◌⊎◌, List, [], ◌∷◌, ◌++◌, true, IsSome, Option, Some, None, inl, inr, refl, sym, ap, ◌∙◌}
use Rattle.std.proofs.lemmas.Bool.{false≢true}
use Rattle.acl_eval.specs.Walk.{IsWalked}
use Rattle.waf_model.specs.Firing.{Ended, Fires, Seen, end_of_tried, labels_of_tried}
use Rattle.waf_model.specs.LabelMatch.{IsAmong}
use Rattle.waf_model.specs.Outcome.{Decides, NoneDecides}
use Rattle.waf_model.specs.Steps.{Step}
use Rattle.waf_model.specs.declared.action.Decision.{Decision}
use Rattle.waf_model.specs.declared.answers.Answers.{Answers}
use Rattle.waf_model.specs.declared.bundle.Bundle.{Bundle}
use Rattle.waf_model.specs.declared.request.Request.{Request}

-- ---- none decides

pub none_at_all : (bundle : Bundle) (request : Request) (answers : Answers) → NoneDecides bundle request answers []
none_at_all bundle request answers before step [] decision is decides = cc
none_at_all bundle request answers before step (a ∷ after) decision is decides = cc

pub none_more : (bundle : Bundle) (request : Request) (answers : Answers) (before : List Step) (step : Step) → NoneDecides bundle request answers before
    → ((decision : Decision) → Decides bundle request answers before step decision → ⊥) → NoneDecides bundle request answers (step ∷ before)
none_more bundle request answers before step none last earlier one [] decision is decides =
    let same_step : step ≡ one = cc in
    let same_before : before ≡ earlier = cc in
    last decision (rw same_step (rw same_before decides))
none_more bundle request answers before step none last earlier one (a ∷ after) decision is decides =
    let behind : before ≡ after ++ one ∷ earlier = cc in
    none earlier one after decision behind decides

pub none_less : (bundle : Bundle) (request : Request) (answers : Answers) (before : List Step) (step : Step) → NoneDecides bundle request answers (step ∷ before) → NoneDecides bundle request answers before
none_less bundle request answers before step none earlier one after decision is decides = none earlier one (step ∷ after) decision (ap (λ (l : List Step). step ∷ l) is) decides

pub not_this : (bundle : Bundle) (request : Request) (answers : Answers) (before : List Step) (step : Step) (decision : Decision) → NoneDecides bundle request answers (step ∷ before)
    → Decides bundle request answers before step decision → ⊥
not_this bundle request answers before step decision none decides = none before step [] decision refl decides

-- ---- a step that doesn't fire

pub passes_by : (bundle : Bundle) (request : Request) (answers : Answers) (before : List Step) (step : Step) (labels : List (List ℕ)) → IsWalked bundle request answers before labels
    → (Fires bundle request answers before step → ⊥) → IsWalked bundle request answers (step ∷ before) labels
passes_by bundle request answers before step labels walked silent = record {
  seen = λ label. (
    λ h. inl ((walked.seen label).0 h),
    λ h. elim h [
      | inl old ↦ (walked.seen label).1 old
      | inr new ↦ absurd (silent new.0)
    ],
  );
  none = none_more bundle request answers before step walked.none (λ decision decides. silent decides.fires);
}

pub still_open : (bundle : Bundle) (request : Request) (answers : Answers) (before : List Step) (step : Step) (place : ℕ) → (Ended bundle request answers before place → ⊥)
    → (Fires bundle request answers before step → IsSome (end_of_tried bundle answers step.tried) → ⊥) → Ended bundle request answers (step ∷ before) place → ⊥
still_open bundle request answers before step place opened unended is = elim is [
  | inl old ↦ opened old
  | inr new ↦ unended new.0 new.1
]

-- ---- a step that fires

-- the labels behind it are those before and its own
pub seen_more : (bundle : Bundle) (request : Request) (answers : Answers) (before : List Step) (step : Step) (labels after : List (List ℕ)) (label : List ℕ)
    → (IsAmong labels label → Seen bundle request answers before label) → (Seen bundle request answers before label → IsAmong labels label)
    → Fires bundle request answers before step
    → (IsAmong after label → IsAmong labels label ⊎ IsAmong (labels_of_tried answers step.tried) label) → (IsAmong labels label → IsAmong after label)
    → (IsAmong (labels_of_tried answers step.tried) label → IsAmong after label)
    → (IsAmong after label → Seen bundle request answers (step ∷ before) label) × (Seen bundle request answers (step ∷ before) label → IsAmong after label)
seen_more bundle request answers before step labels after label to_seen from_seen fires from to_old to_new = (
  λ h. elim (from h) [
    | inl old ↦ inl (to_seen old)
    | inr new ↦ inr (fires, new)
  ],
  λ h. elim h [
    | inl old ↦ to_old (from_seen old)
    | inr new ↦ to_new new.1
  ],
)

-- a step that ends nothing, or ends a group that counts only, doesn't decide
pub undecided : (bundle : Bundle) (request : Request) (answers : Answers) (before : List Step) (step : Step) (decision : Decision)
    → (step.counts_only ≡ true) ⊎ (end_of_tried bundle answers step.tried ≡ None) → Decides bundle request answers before step decision → ⊥
undecided bundle request answers before step decision (inl counts) decides = false≢true (sym decides.whole ∙ counts)
undecided bundle request answers before step decision (inr none) decides =
    let e : None ≡ Some decision = sym none ∙ decides.ends in
    cc

-- nothing is something
pub no_end : {A : Type 0} (o : Option A) → o ≡ None → IsSome o → ⊥
no_end None is some = cc
no_end (Some x) is some = cc
