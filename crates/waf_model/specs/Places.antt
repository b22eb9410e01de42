-- Where the rules that are tried in an evaluation stand in their bundle, in the order of the steps (this project's own).
use Rattle.std.specs.Prelude.{ℕ, List, [], ◌∷◌, map, slice_get, Option, Some, None, option_and_then, option_map}
use Rattle.std.specs.List.{enumerate_from, flat_map, position}
use Rattle.std.specs.Option.{option_map_or}
use Rattle.std.specs.Str.{bytes_eq}
use Rattle.waf_model.specs.Steps.{Tried, rule, managed}
use Rattle.waf_model.specs.declared.bundle.Bundle.{Bundle}
use Rattle.waf_model.specs.declared.group.Group.{Group}
use Rattle.waf_model.specs.declared.place.Place.{Place}
use Rattle.waf_model.specs.declared.rule.Rule.{Rule}
use Rattle.waf_model.specs.declared.rule.Top.{Top}
use Rattle.waf_model.specs.declared.rule.Top.TheVariants as tops
use Rattle.waf_model.specs.declared.statement.Statement.{Statement}

-- ---- the places, in order

-- the rule of the web ACL at that index, and the rule of the group at that index of the groups
abbrev pub top_place : ℕ → Place
top_place index = record { group = None; rule = index }

abbrev pub inner_place : ℕ → ℕ → Place
inner_place group index = record { group = Some group; rule = index }

-- the index of the first group of an ARN: of several with one ARN the first counts
abbrev pub group_index : List Group → List ℕ → Option ℕ
group_index groups arn = position (λ one. bytes_eq one.arn arn) groups

-- the places of the rules of the group at that index
abbrev pub inner_places : List Group → ℕ → List Place
inner_places groups index =
    option_map_or (λ group. map (λ numbered. inner_place index numbered.0) (enumerate_from 0 group.rules)) (slice_get groups index) []

-- those that are tried for the rule of the web ACL at that index: its own, or those of the group that it refers to
abbrev pub places_of : Bundle → ℕ → Top → List Place
places_of bundle index (tops.Plain r) = top_place index ∷ []
places_of bundle index (tops.Group use_of) = option_map_or (inner_places bundle.groups) (group_index bundle.groups use_of.arn) []
places_of bundle index (tops.Managed use_of) = top_place index ∷ []

-- the place of each step, in the order of the steps
abbrev pub places : Bundle → List Place
places bundle = flat_map (λ numbered. places_of bundle numbered.0 numbered.1.body) (enumerate_from 0 bundle.acl.rules)

-- ---- what stands at a place

-- the statement of a plain rule, or what a managed rule group is scoped down to; a reference to a group has none
abbrev pub statement_of_top : Top → Option Statement
statement_of_top (tops.Plain r) = Some r.statement
statement_of_top (tops.Group use_of) = None
statement_of_top (tops.Managed use_of) = use_of.scope_down

-- the rule of a group, if it is there
abbrev pub rule_at : Bundle → ℕ → ℕ → Option Rule
rule_at bundle group index = option_and_then (λ found. slice_get found.rules index) (slice_get bundle.groups group)

-- The statement at a place, if there is one: at the places of a bundle all have one but a managed rule group that isn't
-- scoped down.
abbrev pub statement_in : Bundle → Option ℕ → ℕ → Option Statement
statement_in bundle None index = option_and_then (λ top. statement_of_top top.body) (slice_get bundle.acl.rules index)
statement_in bundle (Some group) index = option_map (λ one. one.statement) (rule_at bundle group index)

abbrev pub statement_at : Bundle → Place → Option Statement
statement_at bundle place = statement_in bundle place.group place.rule

-- the namespace in which the keys and labels at a place stand: that of the web ACL, or that of the group
abbrev pub namespace_in : Bundle → Option ℕ → List ℕ
namespace_in bundle None = bundle.acl.namespace
namespace_in bundle (Some group) = option_map_or (λ found. found.namespace) (slice_get bundle.groups group) []

abbrev pub namespace_at : Bundle → Place → List ℕ
namespace_at bundle place = namespace_in bundle place.group

-- the statement that a step asks for: that of its rule, or what its managed rule group is scoped down to
abbrev pub statement_of_tried : Tried → Option Statement
statement_of_tried (rule statement action labels captcha challenge) = Some statement
statement_of_tried (managed use_of) = use_of.scope_down
