-- A walk over one step.
use Rattle.std.proofs.Common.{◌≡◌, ℕ, ◌↔◌, ◌⊎◌, List, [], ◌∷◌, true, false, IsSome, Option, Some, None, inl, inr, refl, sym, ◌∙◌}
use Rattle.acl_eval.specs.Trying.{IsTried, HasMatched, with_labels}
use Rattle.acl_eval.specs.Walk.{IsWalked, IsWalk}
use Rattle.acl_eval.specs.declared.case.End.{End}
use Rattle.waf_laws.proofs.Among.{some_from, some_to_old, some_to_new}
use Rattle.acl_eval.proofs.Firings.{none_more, passes_by, still_open, seen_more, undecided, no_end}
use Rattle.waf_laws.proofs.Matching.{matches_same}
use Rattle.waf_model.specs.Firing.{Ended, Fires, Seen, Matches, end_of_tried, labels_of_tried}
use Rattle.waf_model.specs.LabelMatch.{IsAmong}
use Rattle.waf_model.specs.Outcome.{Decides}
use Rattle.waf_model.specs.Steps.{Step}
use Rattle.waf_model.specs.declared.action.Decision.{Decision}
use Rattle.waf_model.specs.declared.answers.Answers.{Answers}
use Rattle.waf_model.specs.declared.bundle.Bundle.{Bundle}
use Rattle.waf_model.specs.declared.request.Request.{Request}

-- the step was tried
abbrev pub TriedAt : Bundle → Request → Answers → Step → List (List ℕ) → List (List ℕ) → Option Decision → Type 0
TriedAt bundle request answers step labels after decided = IsTried bundle request answers step.namespace step.tried labels after decided

-- ---- whether it fires

fires_from : (bundle : Bundle) (request : Request) (answers : Answers) (before : List Step) (step : Step) (labels : List (List ℕ)) → IsWalked bundle request answers before labels
    → (Ended bundle request answers before step.place → ⊥) → Matches bundle request answers (IsAmong labels) step.namespace step.tried → Fires bundle request answers before step
fires_from bundle request answers before step labels walked opened matches =
    (opened, (matches_same bundle request answers (IsAmong labels) (Seen bundle request answers before) step.namespace step.tried walked.seen).0 matches)

silent_from : (bundle : Bundle) (request : Request) (answers : Answers) (before : List Step) (step : Step) (labels : List (List ℕ)) → IsWalked bundle request answers before labels
    → (Matches bundle request answers (IsAmong labels) step.namespace step.tried → ⊥) → Fires bundle request answers before step → ⊥
silent_from bundle request answers before step labels walked fails fires =
    fails ((matches_same bundle request answers (IsAmong labels) (Seen bundle request answers before) step.namespace step.tried walked.seen).1 fires.1)

-- ---- behind it

seen_behind : (bundle : Bundle) (request : Request) (answers : Answers) (before : List Step) (step : Step) (labels after : List (List ℕ)) (decided : Option Decision)
    → IsWalked bundle request answers before labels → (Ended bundle request answers before step.place → ⊥)
    → HasMatched bundle request answers step.namespace step.tried labels after decided → (label : List ℕ) → IsAmong after label ↔ Seen bundle request answers (step ∷ before) label
seen_behind bundle request answers before step labels after decided walked opened matched label =
    let added : List (List ℕ) = labels_of_tried answers step.tried in
    let more = seen_more bundle request answers before step labels (with_labels labels added) label (walked.seen label).0 (walked.seen label).1
    (fires_from bundle request answers before step labels walked opened matched.matches)
    (some_from labels added label) (some_to_old labels added label) (some_to_new labels added label) in
    rw matched.added more

matched_on : (bundle : Bundle) (request : Request) (answers : Answers) (before : List Step) (step : Step) (labels after : List (List ℕ)) (decided : Option Decision)
    → IsWalked bundle request answers before labels → (Ended bundle request answers before step.place → ⊥)
    → HasMatched bundle request answers step.namespace step.tried labels after decided
    → (step.counts_only ≡ true) ⊎ (end_of_tried bundle answers step.tried ≡ None) → IsWalked bundle request answers (step ∷ before) after
matched_on bundle request answers before step labels after decided walked opened matched on = record {
  seen = seen_behind bundle request answers before step labels after decided walked opened matched;
  none = none_more bundle request answers before step walked.none (λ decision. undecided bundle request answers before step decision on);
}

without_end : (bundle : Bundle) (answers : Answers) (step : Step) (decided : Option Decision) → decided ≡ end_of_tried bundle answers step.tried → (step.counts_only ≡ true) ⊎ (decided ≡ None)
    → (step.counts_only ≡ true) ⊎ (end_of_tried bundle answers step.tried ≡ None)
without_end bundle answers step decided is (inl counts) = inl counts
without_end bundle answers step decided is (inr none) = inr (sym is ∙ none)

-- where it ends nothing or counts only, the walk goes on
pub walks_on : (bundle : Bundle) (request : Request) (answers : Answers) (before : List Step) (step : Step) (labels after : List (List ℕ)) (decided : Option Decision)
    → IsWalked bundle request answers before labels → (Ended bundle request answers before step.place → ⊥) → TriedAt bundle request answers step labels after decided
    → (step.counts_only ≡ true) ⊎ (decided ≡ None) → IsWalked bundle request answers (step ∷ before) after
walks_on bundle request answers before step labels after decided walked opened (inl matched) on =
    matched_on bundle request answers before step labels after decided walked opened matched (without_end bundle answers step decided matched.decided_so on)
walks_on bundle request answers before step labels after decided walked opened (inr unmatched) on =
    rw unmatched.stays (passes_by bundle request answers before step labels walked (silent_from bundle request answers before step labels walked unmatched.fails))

unended : (bundle : Bundle) (request : Request) (answers : Answers) (before : List Step) (step : Step) (labels after : List (List ℕ)) → IsWalked bundle request answers before labels
    → TriedAt bundle request answers step labels after None → Fires bundle request answers before step → IsSome (end_of_tried bundle answers step.tried) → ⊥
unended bundle request answers before step labels after walked (inl matched) fires some = no_end (end_of_tried bundle answers step.tried) (sym matched.decided_so) some
unended bundle request answers before step labels after walked (inr unmatched) fires some =
    silent_from bundle request answers before step labels walked unmatched.fails fires

-- where it ended nothing, the evaluation has ended for no further rule
pub stays_open : (bundle : Bundle) (request : Request) (answers : Answers) (before : List Step) (step : Step) (labels after : List (List ℕ)) (place : ℕ)
    → IsWalked bundle request answers before labels → TriedAt bundle request answers step labels after None
    → (Ended bundle request answers before place → ⊥) → Ended bundle request answers (step ∷ before) place → ⊥
stays_open bundle request answers before step labels after place walked tried opened =
    still_open bundle request answers before step place opened (unended bundle request answers before step labels after walked tried)

some_is : (o : Option Decision) (decision : Decision) → Some decision ≡ o → IsSome o
some_is (Some d) decision is = refl
some_is None decision is = cc

-- where it ended something, the evaluation has ended for its rule
pub has_ended : (bundle : Bundle) (request : Request) (answers : Answers) (before : List Step) (step : Step) (labels after : List (List ℕ)) (decision : Decision)
    → IsWalked bundle request answers before labels → (Ended bundle request answers before step.place → ⊥) → TriedAt bundle request answers step labels after (Some decision)
    → Ended bundle request answers (step ∷ before) step.place
has_ended bundle request answers before step labels after decision walked opened (inl matched) =
    inr (fires_from bundle request answers before step labels walked opened matched.matches, some_is (end_of_tried bundle answers step.tried) decision matched.decided_so, λ counts. refl)
has_ended bundle request answers before step labels after decision walked opened (inr unmatched) = cc

-- where it ended the whole evaluation, it decides
pub decides_with : (bundle : Bundle) (request : Request) (answers : Answers) (before : List Step) (step : Step) (labels after : List (List ℕ)) (decision : Decision)
    → IsWalked bundle request answers before labels → (Ended bundle request answers before step.place → ⊥) → TriedAt bundle request answers step labels after (Some decision)
    → step.counts_only ≡ false → Decides bundle request answers before step decision
decides_with bundle request answers before step labels after decision walked opened (inl matched) whole = record {
  fires = fires_from bundle request answers before step labels walked opened matched.matches;
  whole = whole;
  ends = sym matched.decided_so;
}
decides_with bundle request answers before step labels after decision walked opened (inr unmatched) whole = cc

pub seen_with : (bundle : Bundle) (request : Request) (answers : Answers) (before : List Step) (step : Step) (labels after : List (List ℕ)) (decision : Decision)
    → IsWalked bundle request answers before labels → (Ended bundle request answers before step.place → ⊥) → TriedAt bundle request answers step labels after (Some decision)
    → (label : List ℕ) → IsAmong after label ↔ Seen bundle request answers (step ∷ before) label
seen_with bundle request answers before step labels after decision walked opened (inl matched) =
    seen_behind bundle request answers before step labels after (Some decision) walked opened matched
seen_with bundle request answers before step labels after decision walked opened (inr unmatched) = cc

-- ---- the walk over it alone

pub goes_on : (bundle : Bundle) (request : Request) (answers : Answers) (step : Step) (labels after : List (List ℕ)) (decided : Option Decision)
    → TriedAt bundle request answers step labels after decided → (step.counts_only ≡ true) ⊎ (decided ≡ None) → IsWalk bundle request answers step.place (step ∷ []) labels after None
goes_on bundle request answers step labels after decided tried on before walked opened =
    walks_on bundle request answers before step labels after decided walked opened tried on

pub comes_to_end : (bundle : Bundle) (request : Request) (answers : Answers) (step : Step) (labels after : List (List ℕ)) (decision : Decision) (end : Option End)
    → TriedAt bundle request answers step labels after (Some decision) → step.counts_only ≡ false → end ≡ Some (record { decision = decision; ender = step.ender })
    → IsWalk bundle request answers step.place (step ∷ []) labels after end
comes_to_end bundle request answers step labels after decision end tried whole is = rw is (λ before walked opened. record {
  passed = [];
  step = step;
  rest = [];
  stands = refl;
  none = walked.none;
  decides = decides_with bundle request answers before step labels after decision walked opened tried whole;
  ender = refl;
  seen = seen_with bundle request answers before step labels after decision walked opened tried;
})
