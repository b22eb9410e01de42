-- The evaluation of a web ACL hasn't ended for a rule before the rule is reached: places of rules differ.
use Rattle.std.proofs.Common.{◌≡◌, ◌≢◌, ℕ, List, [], ◌∷◌, ◌++◌, map, reverse, Bool, true, false, IsSome, Option, Some, None, inl, inr, refl, flat_map}
use Rattle.std.specs.Option.{option_map_or}
use Rattle.acl_eval.proofs.Firings.{none_less, not_this}
use Rattle.waf_model.specs.Firing.{Ended, end_of_tried}
use Rattle.waf_model.specs.Outcome.{NoneDecides}
use Rattle.waf_model.specs.References.{group_of}
use Rattle.waf_model.specs.Steps.{Step, group_step, steps_of}
use Rattle.waf_model.specs.declared.action.Decision.{Decision}
use Rattle.waf_model.specs.declared.answers.Answers.{Answers}
use Rattle.waf_model.specs.declared.bundle.Bundle.{Bundle}
use Rattle.waf_model.specs.declared.group.Group.{Group}
use Rattle.waf_model.specs.declared.request.Request.{Request}
use Rattle.waf_model.specs.declared.rule.GroupUse.{GroupUse}
use Rattle.waf_model.specs.declared.rule.Rule.{Rule}
use Rattle.waf_model.specs.declared.rule.Top.{Top}
use Rattle.waf_model.specs.declared.rule.Top.TheVariants as tops
use Rattle.waf_model.specs.declared.rule.TopRule.{TopRule}
use mathlib.Core.List.{reverse-cons}

-- none of the steps is of the rule at this place
abbrev pub AreElsewhere : ℕ → List Step → Type 0
AreElsewhere place [] = Unit {0}
AreElsewhere place (step ∷ steps) = (step.place ≢ place) × AreElsewhere place steps

away_append : (place : ℕ) (one other : List Step) → AreElsewhere place one → AreElsewhere place other → AreElsewhere place (one ++ other)
away_append place [] other away rest = rest
away_append place (step ∷ one) other away rest = (away.0, away_append place one other away.1 rest)

pub away_reverse : (place : ℕ) (steps : List Step) → AreElsewhere place steps → AreElsewhere place (reverse steps)
away_reverse place [] away = tt
away_reverse place (step ∷ steps) away =
    rw (reverse-cons step steps) (away_append place (reverse steps) (step ∷ []) (away_reverse place steps away.1) (away.0, tt))

some_decision : (o : Option Decision) → IsSome o → (decision : Decision) × (o ≡ Some decision)
some_decision (Some decision) some = (decision, refl)
some_decision None some = cc

-- where no step decides, the evaluation has ended for rules of these steps alone
pub unended_from : (bundle : Bundle) (request : Request) (answers : Answers) (place : ℕ) (before : List Step) → NoneDecides bundle request answers before → AreElsewhere place before
    → Ended bundle request answers before place → ⊥
unended_from bundle request answers place [] none away ended = absurd ended
unended_from bundle request answers place (step ∷ before) none away (inl old) =
    unended_from bundle request answers place before (none_less bundle request answers before step none) away.1 old
unended_from bundle request answers place (step ∷ before) none away (inr new) = by step.counts_only refl
  where
    by : (counts : Bool) → step.counts_only ≡ counts → ⊥
    by true counts = away.0 (new.2 counts)
    by false whole =
        let end = some_decision (end_of_tried bundle answers step.tried) new.1 in
        not_this bundle request answers before step end.0 none (record { fires = new.0; whole = whole; ends = end.1 })

-- ---- the steps of rules at other places

group_away : (place : ℕ) (top : TopRule) (use_of : GroupUse) (group : Group) (rules : List Rule) → top.place ≢ place → AreElsewhere place (map (group_step top use_of group) rules)
group_away place top use_of group [] differs = tt
group_away place top use_of group (rule ∷ rules) differs = (differs, group_away place top use_of group rules differs)

found_away : (place : ℕ) (top : TopRule) (use_of : GroupUse) (group : Option Group) → top.place ≢ place
    → AreElsewhere place (option_map_or (λ group. map (group_step top use_of group) group.rules) group [])
found_away place top use_of None differs = tt
found_away place top use_of (Some group) differs = group_away place top use_of group group.rules differs

top_away : (bundle : Bundle) (place : ℕ) (top : TopRule) (body : Top) → top.place ≢ place → AreElsewhere place (steps_of bundle top body)
top_away bundle place top (tops.Plain rule) differs = (differs, tt)
top_away bundle place top (tops.Group use_of) differs = found_away place top use_of (group_of bundle.groups use_of.arn) differs
top_away bundle place top (tops.Managed use_of) differs = (differs, tt)

-- the steps of these rules
abbrev pub steps_in : Bundle → List TopRule → List Step
steps_in bundle rules = flat_map (λ top. steps_of bundle top top.body) rules

-- each of the rules has another place
abbrev pub AreOthers : ℕ → List TopRule → Type 0
AreOthers place [] = Unit {0}
AreOthers place (top ∷ rules) = (top.place ≢ place) × AreOthers place rules

pub all_away : (bundle : Bundle) (place : ℕ) (rules : List TopRule) → AreOthers place rules → AreElsewhere place (steps_in bundle rules)
all_away bundle place [] others = tt
all_away bundle place (top ∷ rules) others = away_append place (steps_of bundle top top.body) (steps_in bundle rules) (top_away bundle place top top.body others.0) (all_away bundle place rules others.1)
