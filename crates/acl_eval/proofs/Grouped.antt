-- A walk over the rules of a group.
use Rattle.std.proofs.Common.{◌≡◌, ℕ, ◌+◌, ◌<◌, List, [], ◌∷◌, ◌++◌, length, get_or, take, drop, map, reverse, Bool, true, false, Option, Some, None, inl, inr, refl, sym, ap, subst, ◌∙◌}
use Rattle.acl_eval.specs.Walk.{IsWalked, IsWalk}
use Rattle.acl_eval.specs.declared.case.End.{End}
use Rattle.acl_eval.proofs.Firings.{passes_by}
use Rattle.acl_eval.proofs.Lists.{mapped_more, parted_map, reversed_cons, reversed_parts}
use Rattle.acl_eval.proofs.OneStep.{TriedAt, walks_on, stays_open, has_ended, decides_with, seen_with}
use Rattle.waf_model.specs.Firing.{Ended}
use Rattle.waf_model.specs.Steps.{Step, group_step}
use Rattle.waf_model.specs.declared.action.Decision.{Decision}
use Rattle.waf_model.specs.declared.answers.Answers.{Answers}
use Rattle.waf_model.specs.declared.bundle.Bundle.{Bundle}
use Rattle.waf_model.specs.declared.group.Group.{Group}
use Rattle.waf_model.specs.declared.request.Request.{Request}
use Rattle.waf_model.specs.declared.rule.GroupUse.{GroupUse}
use Rattle.waf_model.specs.declared.rule.Rule.{Rule}
use Rattle.waf_model.specs.declared.rule.TopRule.{TopRule}
use mathlib.Core.List.{reverse-reverse}

-- the steps of these rules of the group, the latest first
abbrev pub group_steps : TopRule → GroupUse → Group → List Rule → List Step
group_steps top use_of group rules = reverse (map (group_step top use_of group) rules)

-- Whatever stood before: behind the steps of these rules of the group no step decides, and the evaluation hasn't ended for
-- their rule of the web ACL.
abbrev pub IsGroupWalked : Bundle → Request → Answers → TopRule → GroupUse → Group → List Rule → List (List ℕ) → List (List ℕ) → Type 0
IsGroupWalked bundle request answers top use_of group rules labels after =
    (before : List Step) → IsWalked bundle request answers before labels → (Ended bundle request answers before top.place → ⊥)
    → IsWalked bundle request answers (group_steps top use_of group rules ++ before) after × (Ended bundle request answers (group_steps top use_of group rules ++ before) top.place → ⊥)

-- one rule more was tried and ended nothing
pub group_goes_on : (bundle : Bundle) (request : Request) (answers : Answers) (top : TopRule) (use_of : GroupUse) (group : Group) (i : ℕ) (rule : Rule) (start labels after : List (List ℕ))
    → i < length group.rules → rule ≡ get_or group.rules i rule
    → IsGroupWalked bundle request answers top use_of group (take i group.rules) start labels
    → TriedAt bundle request answers (group_step top use_of group rule) labels after None
    → IsGroupWalked bundle request answers top use_of group (take (i + 1) group.rules) start after
group_goes_on bundle request answers top use_of group i rule start labels after below is so_far tried before walked opened =
    let step : Step = group_step top use_of group rule in
    let behind : List Step = group_steps top use_of group (take i group.rules) ++ before in
    let here = so_far before walked opened in
    let longer : group_steps top use_of group (take (i + 1) group.rules) ≡ step ∷ group_steps top use_of group (take i group.rules) =
    mapped_more (group_step top use_of group) group.rules i rule below is in
    let on : IsWalked bundle request answers (step ∷ behind) after = walks_on bundle request answers behind step labels after None here.0 here.1 tried (inr refl) in
    let still : Ended bundle request answers (step ∷ behind) top.place → ⊥ = stays_open bundle request answers behind step labels after top.place here.0 tried here.1 in
    subst (λ (l : List Step). IsWalked bundle request answers (l ++ before) after × (Ended bundle request answers (l ++ before) top.place → ⊥)) (sym longer) (on, still)

-- behind the end of a group, no rule of it fires
rest_passes : (bundle : Bundle) (request : Request) (answers : Answers) (top : TopRule) (use_of : GroupUse) (group : Group) (rules : List Rule) (behind : List Step) (labels : List (List ℕ))
    → IsWalked bundle request answers behind labels → Ended bundle request answers behind top.place
    → IsWalked bundle request answers (group_steps top use_of group rules ++ behind) labels
rest_passes bundle request answers top use_of group [] behind labels walked ended = walked
rest_passes bundle request answers top use_of group (rule ∷ rules) behind labels walked ended =
    let step : Step = group_step top use_of group rule in
    let on : IsWalked bundle request answers (step ∷ behind) labels = passes_by bundle request answers behind step labels walked (λ fires. fires.0 ended) in
    let rest : IsWalked bundle request answers (group_steps top use_of group rules ++ step ∷ behind) labels =
    rest_passes bundle request answers top use_of group rules (step ∷ behind) labels on (inl ended) in
    subst (λ (l : List Step). IsWalked bundle request answers l labels) (sym (reversed_cons step (map (group_step top use_of group) rules) behind)) rest

-- a rule ended a group that counts only: the walk goes on behind the group
pub group_is_ended : (bundle : Bundle) (request : Request) (answers : Answers) (top : TopRule) (use_of : GroupUse) (group : Group) (i : ℕ) (rule : Rule) (start labels after : List (List ℕ))
    (decision : Decision) → i < length group.rules → rule ≡ get_or group.rules i rule
    → IsGroupWalked bundle request answers top use_of group (take i group.rules) start labels
    → TriedAt bundle request answers (group_step top use_of group rule) labels after (Some decision) → use_of.count ≡ true
    → IsWalk bundle request answers top.place (map (group_step top use_of group) group.rules) start after None
group_is_ended bundle request answers top use_of group i rule start labels after decision below is so_far tried counts before walked opened =
    let f : Rule → Step = group_step top use_of group in
    let behind : List Step = group_steps top use_of group (take i group.rules) ++ before in
    let here = so_far before walked opened in
    let on : IsWalked bundle request answers (f rule ∷ behind) after =
    walks_on bundle request answers behind (f rule) labels after (Some decision) here.0 here.1 tried (inl counts) in
    let ended : Ended bundle request answers (f rule ∷ behind) top.place = has_ended bundle request answers behind (f rule) labels after decision here.0 here.1 tried in
    let rest = rest_passes bundle request answers top use_of group (drop (i + 1) group.rules) (f rule ∷ behind) after on ended in
    let whole : reverse (map f group.rules) ++ before ≡ group_steps top use_of group (drop (i + 1) group.rules) ++ f rule ∷ behind =
    ap (λ (l : List Step). reverse l ++ before) (parted_map f group.rules i rule below is)
    ∙ reversed_parts (map f (take i group.rules)) (f rule) (map f (drop (i + 1) group.rules)) before in
    subst (λ (l : List Step). IsWalked bundle request answers l after) (sym whole) rest

-- a rule ended the whole evaluation
pub group_decides : (bundle : Bundle) (request : Request) (answers : Answers) (top : TopRule) (use_of : GroupUse) (group : Group) (i : ℕ) (rule : Rule) (start labels after : List (List ℕ))
    (decision : Decision) (end : Option End) → i < length group.rules → rule ≡ get_or group.rules i rule
    → IsGroupWalked bundle request answers top use_of group (take i group.rules) start labels
    → TriedAt bundle request answers (group_step top use_of group rule) labels after (Some decision) → use_of.count ≡ false
    → end ≡ Some (record { decision = decision; ender = (group_step top use_of group rule).ender })
    → IsWalk bundle request answers top.place (map (group_step top use_of group) group.rules) start after end
group_decides bundle request answers top use_of group i rule start labels after decision end below is so_far tried whole ended = rw ended (λ before walked opened.
    let f : Rule → Step = group_step top use_of group in
    let passed : List Step = group_steps top use_of group (take i group.rules) in
    let here = so_far before walked opened in
    record {
      passed = passed;
      step = f rule;
      rest = map f (drop (i + 1) group.rules);
      stands = parted_map f group.rules i rule below is ∙ ap (λ (l : List Step). l ++ f rule ∷ map f (drop (i + 1) group.rules)) (sym (reverse-reverse (map f (take i group.rules))));
      none = here.0.none;
      decides = decides_with bundle request answers (passed ++ before) (f rule) labels after decision here.0 here.1 tried whole;
      ender = refl;
      seen = seen_with bundle request answers (passed ++ before) (f rule) labels after decision here.0 here.1 tried;
    })

-- what holds in either case
pub either_count : (counts : Bool) {P : Type 0} → (counts ≡ true → P) → (counts ≡ false → P) → P
either_count true counting whole = counting refl
either_count false counting whole = whole refl
