-- The statements of a bundle with their paths, in the order of the file: those of the web ACL, and then those of the rule
-- groups that it refers to, an outer statement before its parts (this project's own).
use Rattle.std.specs.Prelude.{ℕ, List, [], ◌∷◌, ◌++◌, length, codes, find, Bool, false, ◌==◌, if◌then◌else◌, slice_get, Option, Some, None}
use Rattle.std.specs.List.{enumerate_from, filter_map, flat_map, list_any, range_with_len}
use Rattle.std.specs.Option.{option_map_or}
use Rattle.waf_model.specs.Json.{index_path, member_path}
use Rattle.waf_model.specs.Places.{group_index, rule_at}
use Rattle.waf_model.specs.declared.bundle.Bundle.{Bundle}
use Rattle.waf_model.specs.declared.group.Group.{Group}
use Rattle.waf_model.specs.declared.place.Place.{Place}
use Rattle.waf_model.specs.declared.rule.Rule.{Rule}
use Rattle.waf_model.specs.declared.rule.Top.{Top}
use Rattle.waf_model.specs.declared.rule.Top.TheVariants as tops
use Rattle.waf_model.specs.declared.rule.TopRule.{TopRule}
use Rattle.waf_model.specs.declared.statement.Statement.{Statement}
use Rattle.waf_model.specs.declared.statement.Statement.TheOpen.{Statement-F}
use Rattle.waf_model.specs.declared.statement.Statement.TheFolds.{para-Statement}

-- a statement and its path
pub record Written : Type 0 where
  pub path : List ℕ
  pub statement : Statement

-- ---- a statement and its parts

-- a part, and then what stands in it, at that path
abbrev pub part_at : List ℕ → Statement × (List ℕ → List Written) → List Written
part_at path part = record { path = path; statement = part.0 } ∷ part.1 path

-- the parts of a list at that path, in their order
abbrev pub parts_at : List ℕ → List (Statement × (List ℕ → List Written)) → List Written
parts_at path parts = flat_map (λ numbered. part_at (index_path path numbered.0) numbered.1) (enumerate_from 0 parts)

-- what stands in one statement at that path, with what stands in each part beside it
abbrev pub within_step : Statement-F (Statement × (List ℕ → List Written)) → List ℕ → List Written
within_step (Statement-F.And parts) path = parts_at (member_path (member_path path (codes "AndStatement")) (codes "Statements")) parts
within_step (Statement-F.Or parts) path = parts_at (member_path (member_path path (codes "OrStatement")) (codes "Statements")) parts
within_step (Statement-F.Not part) path = part_at (member_path (member_path path (codes "NotStatement")) (codes "Statement")) part
within_step (Statement-F.Rate key custom_keys scope_down) path =
    option_map_or (part_at (member_path (member_path path (codes "RateBasedStatement")) (codes "ScopeDownStatement"))) scope_down []
within_step other path = []

-- what stands in the statement at that path
abbrev pub written_within : Statement → List ℕ → List Written
written_within = para-Statement (List ℕ → List Written) within_step

-- the statement at that path, and then what stands in it
abbrev pub written_at : List ℕ → Statement → List Written
written_at path statement = record { path = path; statement = statement } ∷ written_within statement path

-- ---- rules

-- the rules by their places, which tell where each stands in the file
abbrev pub in_file_order : {R : Type 0} → (R → ℕ) → List R → List R
in_file_order place_of rules = filter_map (λ place. find (λ rule. place_of rule == place) rules) (range_with_len 0 (length rules))

-- the path of the statement of the rule at that place in a list of rules
abbrev pub rule_path : List ℕ → ℕ → List ℕ
rule_path rules place = member_path (index_path rules place) (codes "Statement")

-- the path of what a managed rule group at that path is scoped down to
abbrev pub scope_path : List ℕ → List ℕ
scope_path path = member_path (member_path path (codes "ManagedRuleGroupStatement")) (codes "ScopeDownStatement")

-- the statements of a rule of the web ACL at that path; those of a group that it refers to are written with the group
abbrev pub written_in_top : List ℕ → Top → List Written
written_in_top path (tops.Plain rule) = written_at path rule.statement
written_in_top path (tops.Group use_of) = []
written_in_top path (tops.Managed use_of) = option_map_or (written_at (scope_path path)) use_of.scope_down []

-- those of the rules of the web ACL
abbrev pub written_in_acl : List TopRule → List Written
written_in_acl rules =
    flat_map (λ top. written_in_top (rule_path (codes "$.WebACL.Rules") top.place) top.body) (in_file_order (λ top. top.place) rules)

-- ---- rule groups

-- the path of the rules of the group at that index
abbrev pub group_rules_path : ℕ → List ℕ
group_rules_path index = member_path (index_path (codes "$.RuleGroups") index) (codes "Rules")

-- those of the rules of the group at that index
abbrev pub written_in_group : ℕ → Group → List Written
written_in_group index group =
    flat_map (λ rule. written_at (rule_path (group_rules_path index) rule.place) rule.statement) (in_file_order (λ rule. rule.place) group.rules)

-- a rule of the web ACL with this body refers to the group at that index
abbrev pub refers_to : List Group → ℕ → Top → Bool
refers_to groups index (tops.Group use_of) = option_map_or (λ found. found == index) (group_index groups use_of.arn) false
refers_to groups index other = false

-- the web ACL refers to the group at that index
abbrev pub is_referred : Bundle → ℕ → Bool
is_referred bundle index = list_any (λ top. refers_to bundle.groups index top.body) bundle.acl.rules

-- those of the groups that the web ACL refers to, in the order of the groups
abbrev pub written_in_groups : Bundle → List Written
written_in_groups bundle =
    flat_map (λ numbered. if is_referred bundle numbered.0 then written_in_group numbered.0 numbered.1 else []) (enumerate_from 0 bundle.groups)

-- ---- the bundle

-- all statements with their paths, in the order of the file
abbrev pub written_statements : Bundle → List Written
written_statements bundle = written_in_acl bundle.acl.rules ++ written_in_groups bundle

-- ---- the path of the statement at a place

-- that of a rule of the web ACL; of a managed rule group that of what it is scoped down to
abbrev pub path_of_top : ℕ → Top → List ℕ
path_of_top place (tops.Managed use_of) = scope_path (rule_path (codes "$.WebACL.Rules") place)
path_of_top place other = rule_path (codes "$.WebACL.Rules") place

-- the path at an index in the rules of the web ACL, or in those of a group
abbrev pub path_in : Bundle → Option ℕ → ℕ → List ℕ
path_in bundle None index = option_map_or (λ top. path_of_top top.place top.body) (slice_get bundle.acl.rules index) []
path_in bundle (Some group) index = option_map_or (λ rule. rule_path (group_rules_path group) rule.place) (rule_at bundle group index) []

-- the path of the statement at a place
abbrev pub path_at : Bundle → Place → List ℕ
path_at bundle place = path_in bundle place.group place.rule
