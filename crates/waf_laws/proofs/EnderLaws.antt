-- No two steps of a whole bundle have one ender: priorities of the rules of a list differ.
use Rattle.std.proofs.Common.{◌≡◌, ◌≢◌, ℕ, ◌<◌, List, [], ◌∷◌, map, Option, Some, None, AllPairs, flat_map, refl, sym, ap, subst, arith}
use Rattle.std.specs.Prelude.{find, if◌then◌else◌, Bool, true, false}
use Rattle.std.specs.Option.{option_map_or}
use Rattle.std.specs.Str.{bytes_eq}
use Rattle.waf_laws.proofs.Pairs.{Each, each_joined, each_weaker, each_from_all, Pairwise, pairs_from, pairwise_from, pairwise_joined}
use Rattle.waf_model.specs.References.{group_of}
use Rattle.waf_model.specs.Steps.{Step, group_step, steps_of, steps}
use Rattle.waf_model.specs.WebAcl.{IsSoundGroup}
use Rattle.waf_model.specs.WholeBundle.{IsWhole}
use Rattle.waf_model.specs.declared.bundle.Bundle.{Bundle}
use Rattle.waf_model.specs.declared.group.Group.{Group}
use Rattle.waf_model.specs.declared.outcome.Ender.{Ender}
use Rattle.waf_model.specs.declared.outcome.Ender.TheVariants as enders
use Rattle.waf_model.specs.declared.rule.GroupUse.{GroupUse}
use Rattle.waf_model.specs.declared.rule.Rule.{Rule}
use Rattle.waf_model.specs.declared.rule.Top.{Top}
use Rattle.waf_model.specs.declared.rule.Top.TheVariants as tops
use Rattle.waf_model.specs.declared.rule.TopRule.{TopRule}

-- ---- enders

-- the priority of the rule of the web ACL, and of the rule of its group
outer : Ender → ℕ
outer enders.Default = 0
outer (enders.Rule priority name) = priority
outer (enders.Inner priority name inner_priority inner_name) = priority

inner : Ender → ℕ
inner (enders.Inner priority name inner_priority inner_name) = inner_priority
inner other = 0

abbrev Differ : Step → Step → Type 0
Differ a b = a.ender ≢ b.ender

-- the rules of one group
inner_differ : (top : TopRule) (use_of : GroupUse) (group : Group) (one other : Rule) → one.priority < other.priority
    → Differ (group_step top use_of group one) (group_step top use_of group other)
unfolding inner
inner_differ top use_of group one other less same =
    let e : one.priority ≡ other.priority = ap inner same in
    omega arith

in_group : (top : TopRule) (use_of : GroupUse) (group : Group) (rules : List Rule) → Pairwise (λ one other. one.priority < other.priority) rules
    → Pairwise Differ (map (group_step top use_of group) rules)
in_group top use_of group [] pairs = tt
in_group top use_of group (rule ∷ rules) pairs = (first rules pairs.0, in_group top use_of group rules pairs.1)
  where
    first : (others : List Rule) → Each (λ other. rule.priority < other.priority) others → Each (Differ (group_step top use_of group rule)) (map (group_step top use_of group) others)
    first [] each = tt
    first (other ∷ others) each = (inner_differ top use_of group rule other each.0, first others each.1)

-- the group that is found is one of the groups
found_sound : (p : Group → Bool) (groups : List Group) (group : Group) → find p groups ≡ Some group → Each IsSoundGroup groups → IsSoundGroup group
found_sound p [] group is sound = absurd (cc)
found_sound p (one ∷ groups) group is sound = by (found_sound p groups group) (p one) is
  where
    by : (find p groups ≡ Some group → Each IsSoundGroup groups → IsSoundGroup group) → (here : Bool) → (if here then Some one else find p groups) ≡ Some group → IsSoundGroup group
    by later true at = let same : one ≡ group = cc in subst IsSoundGroup same sound.0
    by later false at = later at sound.1

module _ (bundle : Bundle) (whole : IsWhole bundle) where
  found_in_order : (top : TopRule) (use_of : GroupUse) (there : Option Group) → group_of bundle.groups use_of.arn ≡ there
      → Pairwise Differ (option_map_or (λ group. map (group_step top use_of group) group.rules) there [])
  found_in_order top use_of None is = tt
  found_in_order top use_of (Some group) is =
      let sound : IsSoundGroup group = found_sound (λ one. bytes_eq one.arn use_of.arn) bundle.groups group is (each_from_all IsSoundGroup bundle.groups whole.groups) in
      in_group top use_of group group.rules (pairwise_from (λ a b. a < b) (λ (rule : Rule). rule.priority) group.rules sound.order.ascend)

  in_top : (top : TopRule) (body : Top) → Pairwise Differ (steps_of bundle top body)
  in_top top (tops.Plain rule) = (tt, tt)
  in_top top (tops.Group use_of) = found_in_order top use_of (group_of bundle.groups use_of.arn) refl
  in_top top (tops.Managed use_of) = (tt, tt)

  -- the steps of a rule of the web ACL have its priority
  outer_in_group : (top : TopRule) (use_of : GroupUse) (group : Group) (rules : List Rule) → Each (λ step. outer step.ender ≡ top.priority) (map (group_step top use_of group) rules)
  unfolding outer
  outer_in_group top use_of group [] = tt
  outer_in_group top use_of group (rule ∷ rules) = (refl, outer_in_group top use_of group rules)

  outer_found : (top : TopRule) (use_of : GroupUse) (there : Option Group)
      → Each (λ step. outer step.ender ≡ top.priority) (option_map_or (λ group. map (group_step top use_of group) group.rules) there [])
  outer_found top use_of None = tt
  outer_found top use_of (Some group) = outer_in_group top use_of group group.rules

  outer_in_top : (top : TopRule) (body : Top) → Each (λ step. outer step.ender ≡ top.priority) (steps_of bundle top body)
  unfolding outer
  outer_in_top top (tops.Plain rule) = (refl, tt)
  outer_in_top top (tops.Group use_of) = outer_found top use_of (group_of bundle.groups use_of.arn)
  outer_in_top top (tops.Managed use_of) = (refl, tt)

  abbrev steps_in : List TopRule → List Step
  steps_in rules = flat_map (λ top. steps_of bundle top top.body) rules

  -- later rules have greater priorities
  later_steps : (priority : ℕ) (rules : List TopRule) → Each (λ top. priority < top.priority) rules → Each (λ step. priority < outer step.ender) (steps_in rules)
  later_steps priority [] each = tt
  later_steps priority (top ∷ rules) each =
      each_joined (λ step. priority < outer step.ender) (steps_of bundle top top.body) (steps_in rules)
      (each_weaker (λ step. outer step.ender ≡ top.priority) (λ step. priority < outer step.ender)
      (λ step is. subst (λ (n : ℕ). priority < n) (sym is) each.0) (steps_of bundle top top.body) (outer_in_top top top.body))
      (later_steps priority rules each.1)

  across : (top : TopRule) (later : List Step) → Each (λ step. top.priority < outer step.ender) later → (here : List Step)
      → Each (λ step. outer step.ender ≡ top.priority) here → Each (λ step. Each (Differ step) later) here
  across top later above here is =
      each_weaker (λ step. outer step.ender ≡ top.priority) (λ step. Each (Differ step) later)
      (λ step own. each_weaker (λ other. top.priority < outer other.ender) (Differ step)
      (λ other greater same. let e : outer step.ender ≡ outer other.ender = ap outer same in omega arith) later above) here is

  in_rules : (rules : List TopRule) → Pairwise (λ one other. one.priority < other.priority) rules → Pairwise Differ (steps_in rules)
  in_rules [] pairs = tt
  in_rules (top ∷ rules) pairs =
      pairwise_joined Differ (steps_of bundle top top.body) (steps_in rules) (in_top top top.body) (in_rules rules pairs.1)
      (across top (steps_in rules) (later_steps top.priority rules pairs.0) (steps_of bundle top top.body) (outer_in_top top top.body))

  pub enders_differ : AllPairs Differ (steps bundle)
  enders_differ = pairs_from Differ (steps bundle) (in_rules bundle.acl.rules (pairwise_from (λ a b. a < b) (λ (top : TopRule). top.priority) bundle.acl.rules whole.acl.order.ascend))
