-- The computed outcome is the outcome.
use Rattle.std.proofs.Common.{◌≡◌, ℕ, ◌↔◌, List, [], ◌∷◌, ◌++◌, reverse, append_assoc, append-nil, Bool, true, false, not, ◌&&◌, ◌||◌, ◌==◌, if◌then◌else◌, IsTrue, IsSome, is_some, Option, Some, None, inl, inr, refl, sym, ap, ◌∙◌, subst, arith}
use Rattle.std.proofs.lemmas.Bool.{false≢true}
use Rattle.std.specs.Option.{option_map_or}
use Rattle.waf_laws.proofs.Among.{none_among, among_append, some_from, some_to_new, ascending}
use Rattle.waf_laws.proofs.HoldsTruths.{holds_decided}
use Rattle.waf_laws.proofs.Matching.{matches_same}
use Rattle.waf_laws.proofs.OneOutcome.{one_outcome_is}
use Rattle.waf_laws.proofs.Truths.{both_decided, either_decided, opposite_decided, same_decided}
use Rattle.waf_model.specs.Alike as alike
use Rattle.waf_model.specs.Firing.{Ended, Fires, HoldsIfThere, Matches, Seen, end_of_tried, labels_of_tried}
use Rattle.waf_model.specs.HoldsTruth.{statement_holds}
use Rattle.waf_model.specs.LabelMatch.{IsAmong}
use Rattle.waf_model.specs.Outcome.{AreLabels, Decides, IsOutcome, NoneDecides}
use Rattle.waf_model.specs.OutcomeTruth.{matches, labels_behind, has_ended, fires, decision_at, Deciding, deciding_among, deciding, decision_of, each_once, outcome_by, outcome_of}
use Rattle.waf_model.specs.Steps.{Step, Tried, rule, managed, steps}
use Rattle.waf_model.specs.declared.action.Decision.{Decision}
use Rattle.waf_model.specs.declared.answers.Answers.{Answers}
use Rattle.waf_model.specs.declared.bundle.Bundle.{Bundle}
use Rattle.waf_model.specs.declared.outcome.Outcome.{Outcome}
use Rattle.waf_model.specs.declared.request.Request.{Request}
use Rattle.waf_model.specs.declared.statement.Statement.{Statement}
use mathlib.Core.List.{reverse-cons}

-- ---- small truths

-- where the first is true, the other is
implied_decided : (a b : Bool) (P : Type 0) → IsTrue b ↔ P → IsTrue (not a || b) ↔ (IsTrue a → P)
implied_decided true b P p = (λ h given. p.0 h, λ h. p.1 (h refl))
implied_decided false b P p = (λ h given. absurd (false≢true given), λ h. refl)

-- the elements of a list that is there only where the test is true
chosen_among : (test : Bool) (labels : List (List ℕ)) (label : List ℕ) → IsAmong (if test then labels else []) label ↔ (IsTrue test × IsAmong labels label)
chosen_among true labels label = (λ h. (refl, h), λ (chosen, h). h)
chosen_among false labels label = (λ h. absurd (none_among label h), λ (chosen, h). absurd (false≢true chosen))

one_more : {X : Type 0} (x : X) (xs before : List X) → reverse (x ∷ xs) ++ before ≡ reverse xs ++ x ∷ before
one_more {X} x xs before = ap (λ (l : List X). l ++ before) (reverse-cons x xs) ∙ append_assoc (reverse xs) (x ∷ []) before

module _ (bundle : Bundle) (request : Request) (answers : Answers) where
  -- ---- matching

  scope_decided : (there : Option Statement) (labels : List (List ℕ)) (namespace : List ℕ)
      → IsTrue (option_map_or (λ scope. statement_holds bundle scope request answers labels namespace bundle.acl.body_limit) there true)
      ↔ HoldsIfThere bundle there request answers (IsAmong labels) namespace
  scope_decided None labels namespace = (λ h. tt, λ h. refl)
  scope_decided (Some statement) labels namespace = holds_decided bundle statement request answers labels namespace bundle.acl.body_limit

  pub matches_decided : (labels : List (List ℕ)) (namespace : List ℕ) (tried : Tried)
      → IsTrue (matches bundle request answers labels namespace tried) ↔ Matches bundle request answers (IsAmong labels) namespace tried
  matches_decided labels namespace (rule statement action own captcha challenge) = holds_decided bundle statement request answers labels namespace bundle.acl.body_limit
  matches_decided labels namespace (managed use_of) = scope_decided use_of.scope_down labels namespace

  -- ---- steps

  -- behind these steps the labels and the ends are those of the definition
  pub record AreTrue (before : List Step) : Type 0 where
    pub labels : (label : List ℕ) → IsAmong (labels_behind bundle request answers before) label ↔ Seen bundle request answers before label
    pub ended : (place : ℕ) → IsTrue (has_ended bundle request answers before place) ↔ Ended bundle request answers before place

  fires_true : (before : List Step) (step : Step) → AreTrue before → IsTrue (fires bundle request answers before step) ↔ Fires bundle request answers before step
  fires_true before step are =
      let labels : List (List ℕ) = labels_behind bundle request answers before in
      let here = matches_decided labels step.namespace step.tried in
      let same = matches_same bundle request answers (IsAmong labels) (Seen bundle request answers before) step.namespace step.tried are.labels in
      both_decided (not (has_ended bundle request answers before step.place)) (matches bundle request answers labels step.namespace step.tried)
      (Ended bundle request answers before step.place → ⊥) (Matches bundle request answers (Seen bundle request answers before) step.namespace step.tried)
      (opposite_decided (has_ended bundle request answers before step.place) (Ended bundle request answers before step.place) (are.ended step.place))
      (λ h. same.0 (here.0 h), λ h. here.1 (same.1 h))

  labels_more : (before : List Step) (step : Step) → AreTrue before → (label : List ℕ)
      → IsAmong (labels_behind bundle request answers (step ∷ before)) label ↔ Seen bundle request answers (step ∷ before) label
  labels_more before step are label =
      let own = labels_of_tried answers step.tried in
      let fired = fires_true before step are in
      let joined = among_append (labels_behind bundle request answers before) (if fires bundle request answers before step then own else []) label in
      let chosen = chosen_among (fires bundle request answers before step) own label in (
        λ h. elim (joined.0 h) [
          | inl old ↦ inl ((are.labels label).0 old)
          | inr new ↦ let (so, is) = chosen.0 new in inr (fired.0 so, is)
        ],
        λ h. joined.1 (elim h [
          | inl old ↦ inl ((are.labels label).1 old)
          | inr new ↦ inr (chosen.1 (fired.1 new.0, new.1))
        ]),
      )

  ended_more : (before : List Step) (step : Step) → AreTrue before → (place : ℕ)
      → IsTrue (has_ended bundle request answers (step ∷ before) place) ↔ Ended bundle request answers (step ∷ before) place
  ended_more before step are place =
      let ends = is_some (end_of_tried bundle answers step.tried) in
      let Reaches : Type 0 = IsTrue step.counts_only → step.place ≡ place in
      let joined = either_decided (has_ended bundle request answers before place)
      (fires bundle request answers before step && (ends && (not step.counts_only || step.place == place)))
      (Ended bundle request answers before place) (Fires bundle request answers before step × (IsSome (end_of_tried bundle answers step.tried) × Reaches))
      (are.ended place)
      (both_decided (fires bundle request answers before step) (ends && (not step.counts_only || step.place == place))
      (Fires bundle request answers before step) (IsSome (end_of_tried bundle answers step.tried) × Reaches) (fires_true before step are)
      (both_decided ends (not step.counts_only || step.place == place) (IsSome (end_of_tried bundle answers step.tried)) Reaches (λ h. h, λ h. h)
      (implied_decided step.counts_only (step.place == place) (step.place ≡ place) (same_decided step.place place)))) in (
        λ h. elim (joined.0 h) [
          | inl old ↦ inl old
          | inr new ↦ let (fired, (some, reaches)) = new in inr (fired, some, reaches)
        ],
        λ h. joined.1 (elim h [
          | inl old ↦ inl old
          | inr new ↦ let (fired, some, reaches) = new in inr (fired, (some, reaches))
        ]),
      )

  pub are_true : (before : List Step) → AreTrue before
  are_true [] = record {
    labels = λ label. (λ h. absurd (none_among label h), λ h. absurd h);
    ended = λ place. (λ h. absurd (false≢true h), λ h. absurd h);
  }
  are_true (step ∷ before) =
      let are : AreTrue before = are_true before in
      record { labels = labels_more before step are; ended = ended_more before step are }

  pub fires_decided : (before : List Step) (step : Step) → IsTrue (fires bundle request answers before step) ↔ Fires bundle request answers before step
  fires_decided before step = fires_true before step (are_true before)

  -- ---- what decides

  -- behind these steps the step decides so
  is_decision : (before : List Step) (step : Step) (decision : Decision) → decision_at bundle request answers before step ≡ Some decision → Decides bundle request answers before step decision
  is_decision before step decision = by (fires bundle request answers before step) step.counts_only (fires_decided before step).0 refl
    where
      by : (fired counts : Bool) → (IsTrue fired → Fires bundle request answers before step) → step.counts_only ≡ counts
          → (if fired && not counts then end_of_tried bundle answers step.tried else None) ≡ Some decision → Decides bundle request answers before step decision
      by true true to_fires is at = absurd (cc)
      by true false to_fires is at = record { fires = to_fires refl; whole = is; ends = at }
      by false counts to_fires is at = absurd (cc)

  is_decision_at : (before : List Step) (step : Step) (decision : Decision) → Decides bundle request answers before step decision → decision_at bundle request answers before step ≡ Some decision
  is_decision_at before step decision decides =
      rw ((fires_decided before step).1 decides.fires, decides.whole) decides.ends

  -- ---- the first that decides

  none_at_all : NoneDecides bundle request answers []
  none_at_all before step [] decision is decides = cc
  none_at_all before step (a ∷ after) decision is decides = cc

  none_more : (before : List Step) (step : Step) → NoneDecides bundle request answers before
      → ((decision : Decision) → Decides bundle request answers before step decision → ⊥) → NoneDecides bundle request answers (step ∷ before)
  none_more before step none last earlier one [] decision is decides =
      let same_step : step ≡ one = cc in
      let same_before : before ≡ earlier = cc in
      last decision (rw same_step (rw same_before decides))
  none_more before step none last earlier one (a ∷ after) decision is decides =
      let behind : before ≡ after ++ one ∷ earlier = cc in
      none earlier one after decision behind decides

  -- of these steps, behind those before them, it is the first that decides, or none does
  abbrev FirstDecides : List Step → List Step → Option Deciding → Type 0
  FirstDecides before rest None = NoneDecides bundle request answers (reverse rest ++ before)
  FirstDecides before rest (Some found) =
      (after : List Step) × (reverse before ++ rest ≡ reverse found.before ++ found.step ∷ after)
      × NoneDecides bundle request answers found.before × Decides bundle request answers found.before found.step found.decision

  -- a step that doesn't decide stands before the others
  passed : (before : List Step) (step : Step) (rest : List Step) (found : Option Deciding) → FirstDecides (step ∷ before) rest found → FirstDecides before (step ∷ rest) found
  passed before step rest None none = subst (NoneDecides bundle request answers) (sym (one_more step rest before)) none
  passed before step rest (Some found) (after, stands, none, decides) =
      (after, sym (one_more step before rest) ∙ stands, none, decides)

  first_is : (rest before : List Step) → NoneDecides bundle request answers before → FirstDecides before rest (deciding_among bundle request answers before rest)
  first_is [] before none = none
  first_is (step ∷ rest) before none =
      by (λ silent. first_is rest (step ∷ before) (none_more before step none silent)) (decision_at bundle request answers before step) refl
    where
      by : (((decision : Decision) → Decides bundle request answers before step decision → ⊥)
          → FirstDecides (step ∷ before) rest (deciding_among bundle request answers (step ∷ before) rest))
          → (o : Option Decision) → decision_at bundle request answers before step ≡ o
          → FirstDecides before (step ∷ rest)
          (option_map_or (λ decision. Some (record { before = before; step = step; decision = decision })) o (deciding_among bundle request answers (step ∷ before) rest))
      by more None undecided =
          passed before step rest (deciding_among bundle request answers (step ∷ before) rest)
          (more (λ decision decides. let e : None ≡ Some decision = sym undecided ∙ is_decision_at before step decision decides in cc))
      by more (Some decision) decided = (rest, refl, none, is_decision before step decision decided)

  -- ---- the outcome

  labels_are : (before : List Step) → AreLabels bundle request answers before (each_once (labels_behind bundle request answers before))
  labels_are before = record {
    ascend = ascending [] (labels_behind bundle request answers before) (λ i j d less within. absurd (omega arith));
    seen = λ label.
        let are = (are_true before).labels label in (
          λ h. elim (some_from [] (labels_behind bundle request answers before) label h) [
            | inl none ↦ absurd (none_among label none)
            | inr some ↦ are.0 some
          ],
          λ h. some_to_new [] (labels_behind bundle request answers before) label (are.1 h),
        );
  }

  outcome_by_is : (found : Option Deciding) → FirstDecides [] (steps bundle) found → IsOutcome bundle request answers (outcome_by bundle request answers found)
  outcome_by_is None none = inr (record {
    none = subst (NoneDecides bundle request answers) (append-nil (reverse (steps bundle))) none;
    decision = refl;
    ender = refl;
    labels = labels_are (reverse (steps bundle));
  })
  outcome_by_is (Some found) (after, stands, none, decides) = inl (record {
    before = found.before;
    step = found.step;
    after = after;
    stands = stands;
    first = none;
    decides = decides;
    ender = refl;
    labels = labels_are (found.step ∷ found.before);
  })

  -- the computed outcome is one
  pub outcome_is : IsOutcome bundle request answers (outcome_of bundle request answers)
  outcome_is = outcome_by_is (deciding bundle request answers) (first_is (steps bundle) [] none_at_all)

  -- and it is the only one
  pub only_outcome : (outcome : Outcome) → IsOutcome bundle request answers outcome ↔ (outcome ≡ outcome_of bundle request answers)
  only_outcome outcome = (
    λ is. one_outcome_is bundle request answers outcome (outcome_of bundle request answers) is outcome_is,
    λ same. subst (IsOutcome bundle request answers) (sym same) outcome_is,
  )

  -- ---- the decision

  -- the web ACL decides as the computed outcome does
  pub only_decision : (decision : Decision) → alike.Decides bundle request answers decision ↔ (decision ≡ decision_of bundle (deciding bundle request answers))
  only_decision decision = (
    λ (outcome, is, decides). sym decides ∙ ap (λ (o : Outcome). o.decision) ((only_outcome outcome).0 is),
    λ same. (outcome_of bundle request answers, outcome_is, sym same),
  )
