-- A web ACL has at most one outcome.
use Rattle.std.proofs.Common.{◌≡◌, ℕ, zero, suc, ◌⊎◌, ◌↔◌, List, [], ◌∷◌, ◌++◌, reverse, inl, inr, Some, refl, sym, ap, ◌∙◌, subst, arith, append_assoc, AllPairs, IsTrue}
use Rattle.std.proofs.lemmas.Cmp.{nat_list_cmp_total}
use Rattle.std.proofs.lemmas.Grind.{reverse_onto}
use Rattle.std.proofs.lemmas.List.{reverse-append, reverse-reverse}
use Rattle.std.specs.Cmp.Lexicographic.{slice_cmp}
use Rattle.std.specs.Ordering.{is_lt, nat_cmp, ordering_reverse}
use Rattle.std.specs.declared.cmp.Ordering.{Ordering}
use Rattle.std.specs.declared.cmp.Ordering.TheVariants.{Less, Equal, Greater}
use Rattle.waf_model.specs.Firing.{end_of_tried}
use Rattle.waf_model.specs.LabelMatch.{IsAmong}
use Rattle.waf_model.specs.Outcome.{AreLabels, Decides, DefaultDecides, IsOutcome, NoneDecides, StepDecides}
use Rattle.waf_model.specs.Steps.{Step, steps}
use Rattle.waf_model.specs.declared.action.Decision.{Decision}
use Rattle.waf_model.specs.declared.answers.Answers.{Answers}
use Rattle.waf_model.specs.declared.bundle.Bundle.{Bundle}
use Rattle.waf_model.specs.declared.outcome.Ender.{Ender}
use Rattle.waf_model.specs.declared.outcome.Outcome.{Outcome}
use Rattle.waf_model.specs.declared.request.Request.{Request}

-- ---- two splits of one list

-- they are one, or the one stands in front of the other
abbrev Meet : {X : Type 0} → List X → X → List X → X → Type 0
Meet {X} front x other y = ((front ≡ other) × (x ≡ y)) ⊎ (((between : List X) × (other ≡ front ++ x ∷ between)) ⊎ ((between : List X) × (front ≡ other ++ y ∷ between)))

-- behind one element more on both sides
meet_behind : {X : Type 0} (first : X) (front : List X) (x : X) (other : List X) (y : X) → Meet front x other y → Meet (first ∷ front) x (first ∷ other) y
meet_behind {X} first front x other y met =
    elim met [
      | inl same ↦ inl (ap (λ (xs : List X). first ∷ xs) same.0, same.1)
      | inr apart ↦ inr (elim apart [
        | inl earlier ↦ inl (earlier.0, ap (λ (xs : List X). first ∷ xs) earlier.1)
        | inr later ↦ inr (later.0, ap (λ (xs : List X). first ∷ xs) later.1)
      ])
    ]

splits_meet : {X : Type 0} (front : List X) (x : X) (back : List X) (other : List X) (y : X) (rest : List X) → front ++ x ∷ back ≡ other ++ y ∷ rest → Meet front x other y
splits_meet [] x back [] y rest is = inl (refl, cc)
splits_meet [] x back (w ∷ other) y rest is = inr (inl (other, cc))
splits_meet (v ∷ front) x back [] y rest is = inr (inr (front, cc))
splits_meet {X} (v ∷ front) x back (w ∷ other) y rest is =
    let first : v ≡ w = cc in
    let met : Meet front x other y = splits_meet front x back other y rest (cc) in
    subst (λ (u : X). Meet (v ∷ front) x (u ∷ other) y) first (meet_behind v front x other y met)

-- a split, seen from the end
turned : {X : Type 0} (before : List X) (x : X) (after : List X) → reverse (reverse before ++ x ∷ after) ≡ reverse after ++ x ∷ before
turned {X} before x after =
    reverse-append (reverse before) (x ∷ after) ∙ ap (λ (xs : List X). reverse (x ∷ after) ++ xs) (reverse-reverse before)
    ∙ ap (λ (xs : List X). xs ++ before) (reverse_onto after x []) ∙ append_assoc (reverse after) (x ∷ []) before

-- what stands in front of a list that is reversed stands at its end
turned_split : {X : Type 0} (before : List X) (x : X) (after : List X) (all : List X) → reverse all ≡ reverse before ++ x ∷ after → all ≡ reverse after ++ x ∷ before
turned_split before x after all is = sym (reverse-reverse all) ∙ ap reverse is ∙ turned before x after

same_reversed : {X : Type 0} (xs ys : List X) → reverse xs ≡ reverse ys → xs ≡ ys
same_reversed xs ys is = sym (reverse-reverse xs) ∙ ap reverse is ∙ reverse-reverse ys

-- ---- lists that ascend

abbrev IsBelow : List ℕ → List ℕ → Type 0
IsBelow a b = IsTrue (is_lt (slice_cmp nat_cmp a b))

not_both : (one other : Ordering) → one ≡ ordering_reverse other → IsTrue (is_lt one) → IsTrue (is_lt other) → ⊥
not_both one Less is first second = cc
not_both one Equal is first second = cc
not_both one Greater is first second = cc

-- of two texts only one is below the other
one_below : (a b : List ℕ) → IsBelow a b → IsBelow b a → ⊥
one_below a b = not_both (slice_cmp nat_cmp a b) (slice_cmp nat_cmp b a) (nat_list_cmp_total.antisymm a b)

among_first : (x : List ℕ) (xs : List (List ℕ)) → IsAmong (x ∷ xs) x
among_first x xs = (0, x, omega arith, refl, refl)

among_rest : (x : List ℕ) (xs : List (List ℕ)) (label : List ℕ) → IsAmong xs label → IsAmong (x ∷ xs) label
among_rest x xs label some = (suc some.0, some.1, (let within = some.2 in omega arith), some.3, some.4)

among_none : (label : List ℕ) → IsAmong [] label → ⊥
among_none label some = let within = some.2 in omega arith

-- the first or a later one
among_parts : (x : List ℕ) (xs : List (List ℕ)) (label : List ℕ) → IsAmong (x ∷ xs) label → (label ≡ x) ⊎ IsAmong xs label
among_parts x xs label (zero, y, within, is, same) = inl (same ∙ sym is)
among_parts x xs label (suc k, y, within, is, same) = inr (k, y, omega arith, is, same)

-- the first is below each later one
below_later : (x : List ℕ) (xs : List (List ℕ)) (label : List ℕ) → AllPairs IsBelow (x ∷ xs) → IsAmong xs label → IsBelow x label
below_later x xs label ascend (k, y, within, is, same) = subst (λ (l : List ℕ). IsBelow x l) (is ∙ sym same) (ascend 0 (suc k) y (omega arith) (omega arith))

same_first : (x y : List ℕ) (xs ys : List (List ℕ)) → AllPairs IsBelow (x ∷ xs) → AllPairs IsBelow (y ∷ ys) → IsAmong (y ∷ ys) x → IsAmong (x ∷ xs) y → x ≡ y
same_first x y xs ys ascend others x_among y_among =
    elim (among_parts y ys x x_among) [
      | inl same ↦ same
      | inr later ↦ elim (among_parts x xs y y_among) [
        | inl same ↦ sym same
        | inr after ↦ absurd (one_below x y (below_later x xs y ascend after) (below_later y ys x others later))
      ]
    ]

-- behind one first text, what is among the one list is among the other
among_same : (x : List ℕ) (xs ys : List (List ℕ)) (label : List ℕ) → AllPairs IsBelow (x ∷ xs) → (IsAmong (x ∷ xs) label → IsAmong (x ∷ ys) label) → IsAmong xs label → IsAmong ys label
among_same x xs ys label ascend same among =
    elim (among_parts x ys label (same (among_rest x xs label among))) [
      | inl first ↦
          let below : IsBelow x x = subst (λ (l : List ℕ). IsBelow x l) first (below_later x xs label ascend among) in
          absurd (one_below x x below below)
      | inr later ↦ later
    ]

ascend_rest : (x : List ℕ) (xs : List (List ℕ)) → AllPairs IsBelow (x ∷ xs) → AllPairs IsBelow xs
ascend_rest x xs ascend i j d less within = ascend (suc i) (suc j) d (omega arith) (omega arith)

abbrev Same : List (List ℕ) → List (List ℕ) → Type 0
Same xs ys = (label : List ℕ) → IsAmong xs label ↔ IsAmong ys label

-- behind one first text
same_behind : (x : List ℕ) (xs ys : List (List ℕ)) → AllPairs IsBelow (x ∷ xs) → (AllPairs IsBelow xs → AllPairs IsBelow ys → Same xs ys → xs ≡ ys)
    → AllPairs IsBelow (x ∷ ys) → Same (x ∷ xs) (x ∷ ys) → x ∷ xs ≡ x ∷ ys
same_behind x xs ys ascend rest others same =
    ap (λ (texts : List (List ℕ)). x ∷ texts)
    (rest (ascend_rest x xs ascend) (ascend_rest x ys others) (λ label. (among_same x xs ys label ascend (same label).0, among_same x ys xs label others (same label).1)))

-- with the same members they are the same
same_ascending : (xs ys : List (List ℕ)) → AllPairs IsBelow xs → AllPairs IsBelow ys → Same xs ys → xs ≡ ys
same_ascending [] [] ascend others same = refl
same_ascending [] (y ∷ ys) ascend others same = absurd (among_none y ((same y).1 (among_first y ys)))
same_ascending (x ∷ xs) [] ascend others same = absurd (among_none x ((same x).0 (among_first x xs)))
same_ascending (x ∷ xs) (y ∷ ys) ascend others same =
    let first : x ≡ y = same_first x y xs ys ascend others ((same x).0 (among_first x xs)) ((same y).1 (among_first y ys)) in
    subst (λ (z : List ℕ). AllPairs IsBelow (z ∷ ys) → Same (x ∷ xs) (z ∷ ys) → x ∷ xs ≡ z ∷ ys) first (same_behind x xs ys ascend (same_ascending xs ys)) others same

same_labels : (bundle : Bundle) (request : Request) (answers : Answers) (fired : List Step) (one other : List (List ℕ)) → AreLabels bundle request answers fired one → AreLabels bundle request answers fired other → one ≡ other
same_labels bundle request answers fired one other first second =
    same_ascending one other first.ascend second.ascend (λ label. (λ among. (second.seen label).1 ((first.seen label).0 among), λ among. (first.seen label).1 ((second.seen label).0 among)))

-- ---- outcomes

made : Decision → Ender → List (List ℕ) → Outcome
made decision ender labels = record { decision = decision; ender = ender; labels = labels }

same_outcome : (one other : Outcome) → one.decision ≡ other.decision → one.ender ≡ other.ender → one.labels ≡ other.labels → one ≡ other
unfolding made
same_outcome one other decision ender labels =
    ap (λ (d : Decision). made d one.ender one.labels) decision ∙ ap (λ (e : Ender). made other.decision e one.labels) ender
    ∙ ap (λ (l : List (List ℕ)). made other.decision other.ender l) labels

same_end : (bundle : Bundle) (answers : Answers) (step : Step) (one other : Decision) → end_of_tried bundle answers step.tried ≡ Some one → end_of_tried bundle answers step.tried ≡ Some other → one ≡ other
same_end bundle answers step one other first second = cc

-- no step in front of one that decides decides too
none_before : (bundle : Bundle) (request : Request) (answers : Answers) (before : List Step) (step : Step) (between : List Step) (all : List Step) (decision : Decision)
    → reverse all ≡ reverse before ++ step ∷ between → Decides bundle request answers before step decision → NoneDecides bundle request answers all → ⊥
none_before bundle request answers before step between all decision stands decides none =
    none before step (reverse between) decision (turned_split before step between all stands) decides

-- two outcomes by one step
one_step : (bundle : Bundle) (request : Request) (answers : Answers) (one other : Outcome) (first : StepDecides bundle request answers one) (second : StepDecides bundle request answers other)
    → first.before ≡ second.before → first.step ≡ second.step → one ≡ other
one_step bundle request answers one other first second before step =
    let decides : Decides bundle request answers second.before second.step one.decision = rw (sym before, sym step) first.decides in
    let labels : AreLabels bundle request answers (second.step ∷ second.before) one.labels = rw (sym before, sym step) first.labels in
    same_outcome one other
    (same_end bundle answers second.step one.decision other.decision decides.ends second.decides.ends)
    (first.ender ∙ ap (λ (s : Step). s.ender) step ∙ sym second.ender)
    (same_labels bundle request answers (second.step ∷ second.before) one.labels other.labels labels second.labels)

both_steps : (bundle : Bundle) (request : Request) (answers : Answers) (one other : Outcome) → StepDecides bundle request answers one → StepDecides bundle request answers other → one ≡ other
both_steps bundle request answers one other first second =
    elim (splits_meet (reverse first.before) first.step first.after (reverse second.before) second.step second.after (sym first.stands ∙ second.stands)) [
      | inl same ↦ one_step bundle request answers one other first second (same_reversed first.before second.before same.0) same.1
      | inr apart ↦ elim apart [
        | inl earlier ↦ absurd (none_before bundle request answers first.before first.step earlier.0 second.before one.decision earlier.1 first.decides second.first)
        | inr later ↦ absurd (none_before bundle request answers second.before second.step later.0 first.before other.decision later.1 second.decides first.first)
      ]
    ]

-- where a step decides, the default action doesn't
not_default : (bundle : Bundle) (request : Request) (answers : Answers) (one other : Outcome) → StepDecides bundle request answers one → DefaultDecides bundle request answers other → ⊥
not_default bundle request answers one other first second =
    none_before bundle request answers first.before first.step first.after (reverse (steps bundle)) one.decision (reverse-reverse (steps bundle) ∙ first.stands) first.decides second.none

both_defaults : (bundle : Bundle) (request : Request) (answers : Answers) (one other : Outcome) → DefaultDecides bundle request answers one → DefaultDecides bundle request answers other → one ≡ other
both_defaults bundle request answers one other first second =
    same_outcome one other (first.decision ∙ sym second.decision) (first.ender ∙ sym second.ender)
    (same_labels bundle request answers (reverse (steps bundle)) one.labels other.labels first.labels second.labels)

pub one_outcome_is : (bundle : Bundle) (request : Request) (answers : Answers) (one other : Outcome) → IsOutcome bundle request answers one → IsOutcome bundle request answers other → one ≡ other
one_outcome_is bundle request answers one other is also =
    elim is [
      | inl first ↦ elim also [
        | inl second ↦ both_steps bundle request answers one other first second
        | inr second ↦ absurd (not_default bundle request answers one other first second)
      ]
      | inr first ↦ elim also [
        | inl second ↦ absurd (not_default bundle request answers other one second first)
        | inr second ↦ both_defaults bundle request answers one other first second
      ]
    ]
