-- What a web ACL costs, in web ACL capacity units. All numbers and rules here are this project's own.
use Rattle.std.specs.Prelude.{ℕ, ◌+◌, ◌*◌, ◌≤◌, Bool, true, false, ◌&&◌, IsTrue, nat_le, if◌then◌else◌, List, [], ◌∷◌, length, map, All, find, count_by, Option, Some, None, option_map}
use Rattle.std.specs.List.{list_all}
use Rattle.std.specs.Option.{option_map_or}
use Rattle.std.specs.Str.{bytes_eq}
use Rattle.waf_model.specs.StatementCount.{bundle_count}
use Rattle.waf_model.specs.declared.bundle.Bundle.{Bundle}
use Rattle.waf_model.specs.declared.field.Field.{Field}
use Rattle.waf_model.specs.declared.field.Field.TheVariants.{AllArguments}
use Rattle.waf_model.specs.declared.group.Group.{Group}
use Rattle.waf_model.specs.declared.group.ManagedCapacity.{ManagedCapacity}
use Rattle.waf_model.specs.declared.matching.Forwarded.{Forwarded}
use Rattle.waf_model.specs.declared.matching.ForwardedPosition.{ForwardedPosition}
use Rattle.waf_model.specs.declared.matching.ForwardedPosition.TheVariants.{First, Last, Any}
use Rattle.waf_model.specs.declared.matching.Position.{Position}
use Rattle.waf_model.specs.declared.matching.Position.TheVariants.{Exactly, Starts, Ends, Contains, Word}
use Rattle.waf_model.specs.declared.outcome.Capacity.{Capacity}
use Rattle.waf_model.specs.declared.rule.ManagedUse.{ManagedUse}
use Rattle.waf_model.specs.declared.rule.Top.{Top}
use Rattle.waf_model.specs.declared.rule.Top.TheVariants as tops
use Rattle.waf_model.specs.declared.statement.Statement.{Statement}
use Rattle.waf_model.specs.declared.statement.Statement.TheOpen.{Statement-F}
use Rattle.waf_model.specs.declared.statement.Statement.TheFolds.{fold-Statement}
use Rattle.waf_model.specs.declared.transform.Transform.{Transform}
use Rattle.waf_model.specs.declared.transform.Transform.TheVariants.{KeepAll}

-- a cost of so many units
abbrev pub units : ℕ → Capacity
units n = record { known = n; unknown = 0 }

-- a cost that may be unknown: then it is 0 units and one unknown
abbrev pub units_if_known : Option ℕ → Capacity
units_if_known None = record { known = 0; unknown = 1 }
units_if_known (Some n) = units n

-- two costs together, and several
abbrev pub plus : Capacity → Capacity → Capacity
plus one other = record { known = one.known + other.known; unknown = one.unknown + other.unknown }

abbrev pub sum_of : List Capacity → Capacity
sum_of [] = units 0
sum_of (cost ∷ costs) = plus cost (sum_of costs)

-- The bases of the statements that test a field: of a byte match by its positional constraint, and of a test for SQL
-- injection by whether its sensitivity level is HIGH.
abbrev pub match_base : Position → ℕ
match_base Exactly = 2
match_base Starts = 2
match_base Ends = 2
match_base Contains = 10
match_base Word = 10

abbrev pub size_base : ℕ
size_base = 1

abbrev pub regex_base : ℕ
regex_base = 3

abbrev pub pattern_set_base : ℕ
pattern_set_base = 25

abbrev pub sql_injection_base : Bool → ℕ
sql_injection_base high = if high then 30 else 20

abbrev pub cross_site_base : ℕ
cross_site_base = 40

-- A base with what the field and the transformations add: a JSON body doubles the base, all query arguments add 10, and
-- each transformation that is charged adds 10.
abbrev pub with_extras : ℕ → Bool → Bool → ℕ → ℕ
with_extras base json_body all_arguments charged =
    (if json_body then 2 * base else base) + (if all_arguments then 10 else 0) + 10 * charged

-- every transformation but NONE is charged
abbrev pub is_charged : Transform → Bool
is_charged KeepAll = false
is_charged transform = true

abbrev pub is_all_arguments : Field → Bool
is_all_arguments AllArguments = true
is_all_arguments field = false

-- the cost of a test of that base; a statement on a JSON body is opaque
abbrev pub test_cost : ℕ → Field → List Transform → Capacity
test_cost base field transforms =
    units (with_extras base false (is_all_arguments field) (count_by is_charged transforms))

-- 1 for an IP set reference, or 5 where any address of a header may match
abbrev pub position_cost : ForwardedPosition → ℕ
position_cost First = 1
position_cost Last = 1
position_cost Any = 5

abbrev pub ip_set_cost : Option Forwarded → ℕ
ip_set_cost None = 1
ip_set_cost (Some forwarded) = position_cost forwarded.position

-- with a scope-down, its cost comes on top
abbrev pub with_scope_down : Capacity → Option Capacity → Capacity
with_scope_down cost None = cost
with_scope_down cost (Some scope_down) = plus cost scope_down

-- the cost of a statement, with that of each part in its place
abbrev pub cost_step : Statement-F Capacity → Capacity
cost_step (Statement-F.ByteMatch search field transforms position) = test_cost (match_base position) field transforms
cost_step (Statement-F.Size op size field transforms) = test_cost size_base field transforms
cost_step (Statement-F.Regex pattern field transforms) = test_cost regex_base field transforms
cost_step (Statement-F.PatternSet arn field transforms source) = test_cost pattern_set_base field transforms
cost_step (Statement-F.Ip arn forwarded) = units (ip_set_cost forwarded)
cost_step (Statement-F.Label scope key) = units 1
cost_step (Statement-F.And parts) = sum_of parts
cost_step (Statement-F.Or parts) = sum_of parts
cost_step (Statement-F.Not part) = part
cost_step (Statement-F.Rate key custom_keys scope_down) = with_scope_down (units (2 + 30 * custom_keys)) scope_down
cost_step (Statement-F.Opaque key cost arn) = units_if_known cost

-- what a statement costs
abbrev pub statement_cost : Statement → Capacity
statement_cost = fold-Statement Capacity cost_step

-- the capacity of the first rule group with that ARN
abbrev pub group_capacity : List Group → List ℕ → Option ℕ
group_capacity groups arn = option_map (λ group. group.capacity) (find (λ group. bytes_eq group.arn arn) groups)

-- a capacity that names no version is that of every version
abbrev pub fits_version : Option (List ℕ) → Option (List ℕ) → Bool
fits_version None used = true
fits_version (Some version) None = false
fits_version (Some version) (Some used) = bytes_eq version used

-- a capacity is that of the managed rule group: it names its vendor, its name, and its version or none
abbrev pub is_capacity_of : ManagedUse → ManagedCapacity → Bool
is_capacity_of use_of managed =
    bytes_eq managed.vendor use_of.vendor && (bytes_eq managed.name use_of.name && fits_version managed.version use_of.version)

-- the first capacity that is that of the managed rule group
abbrev pub managed_capacity : List ManagedCapacity → ManagedUse → Option ℕ
managed_capacity managed use_of = option_map (λ m. m.capacity) (find (is_capacity_of use_of) managed)

-- what a rule of the web ACL costs
abbrev pub rule_cost : Bundle → Top → Capacity
rule_cost bundle (tops.Plain rule) = statement_cost rule.statement
rule_cost bundle (tops.Group use_of) = units_if_known (group_capacity bundle.groups use_of.arn)
rule_cost bundle (tops.Managed use_of) =
    with_scope_down (units_if_known (managed_capacity bundle.managed use_of)) (option_map statement_cost use_of.scope_down)

-- what the web ACL costs: the sum over its rules
abbrev pub cost_of : Bundle → Capacity
cost_of bundle = sum_of (map (λ top. rule_cost bundle top.body) bundle.acl.rules)

-- whether a statement has at most 100 transformations, and costs at most 10,000 where it is opaque; so has each part
abbrev pub limits_step : Statement-F Bool → Bool
limits_step (Statement-F.ByteMatch search field transforms position) = nat_le (length transforms) 100
limits_step (Statement-F.Size op size field transforms) = nat_le (length transforms) 100
limits_step (Statement-F.Regex pattern field transforms) = nat_le (length transforms) 100
limits_step (Statement-F.PatternSet arn field transforms source) = nat_le (length transforms) 100
limits_step (Statement-F.And parts) = list_all (λ limited. limited) parts
limits_step (Statement-F.Or parts) = list_all (λ limited. limited) parts
limits_step (Statement-F.Not part) = part
limits_step (Statement-F.Rate key custom_keys scope_down) = option_map_or (λ limited. limited) scope_down true
limits_step (Statement-F.Opaque key cost arn) = option_map_or (λ n. nat_le n 10000) cost true
limits_step other = true

abbrev pub is_limited : Statement → Bool
is_limited = fold-Statement Bool limits_step

-- the same of the statement or scope-down of a rule of the web ACL
abbrev pub is_limited_top : Top → Bool
is_limited_top (tops.Plain rule) = is_limited rule.statement
is_limited_top (tops.Group use_of) = true
is_limited_top (tops.Managed use_of) = option_map_or is_limited use_of.scope_down true

-- What every bundle keeps to whose cost is counted: it has at most 20,000 statements; and in the web ACL, each statement
-- has at most 100 transformations, and costs at most 10,000 where it is opaque.
pub record IsCounted (bundle : Bundle) : Type 0 where
  pub statements : bundle_count bundle ≤ 20000
  pub limits : All (λ top. IsTrue (is_limited_top top.body)) bundle.acl.rules
