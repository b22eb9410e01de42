-- How the statement at the top of a rule is read: there rate-based statements may stand, and in a web ACL references to
-- rule groups and managed rule groups too (API types `RateBasedStatement` and `ManagedRuleGroupStatement`).
use Rattle.std.specs.Prelude.{ℕ, List, [], codes, length, min, false, if◌then◌else◌, Option, Some, None, Result, Ok, Err}
use Rattle.serde_json.specs.Data.{Data}
use Rattle.serde_json.specs.Written.{compact_text, has_float}
use Rattle.json_view.specs.Words.{optional_list_at, optional_text_at, text_member_at}
use Rattle.key_text.specs.Keys.{rate_statement, unscoped}
use Rattle.waf_model.specs.Gives.{◌>>=◌}
use Rattle.waf_model.specs.Json.{member_at, member_path, optional_at}
use Rattle.waf_model.specs.declared.read_fault.ReadFault.{ReadFault}
use Rattle.waf_model.specs.declared.read_fault.ReadFault.TheVariants as faults
use Rattle.waf_model.specs.declared.rule.GroupUse.{GroupUse}
use Rattle.waf_model.specs.declared.rule.ManagedUse.{ManagedUse}
use Rattle.waf_model.specs.declared.sets.RegexSet.{RegexSet}
use Rattle.waf_model.specs.declared.statement.Statement.{Statement}
use Rattle.waf_model.specs.declared.statement.Statement.TheVariants as statements
use Rattle.statement_json.specs.Groups.{group_use_of}
use Rattle.statement_json.specs.Kinds.{kind_of}
use Rattle.statement_json.specs.Statements.{Reading, of_some_kind, opened, statement_within}
use Rattle.statement_json.specs.declared.encoding.Encoding.{Encoding}
use Rattle.statement_json.specs.declared.managed_use.ManagedName.{ManagedName}
use Rattle.statement_json.specs.declared.rate.RateParts.{RateParts}
use Rattle.statement_json.specs.declared.statement_kind.StatementKind.{StatementKind}
use Rattle.statement_json.specs.declared.statement_kind.StatementKind.TheVariants as kinds
use Rattle.statement_json.specs.declared.top.TopStatement.{TopStatement}
use Rattle.statement_json.specs.declared.top.TopStatement.TheVariants as tops

-- the parts of a statement at the top of a rule have so many levels of statements at most
abbrev pub part_levels : ℕ
part_levels = 127

-- what a statement is scoped down to, where it is
abbrev pub optional_part : Reading → Option Data → List ℕ → ℕ → Result (Option Statement × ℕ) ReadFault
optional_part inner None path seen = Ok (None, seen)
optional_part inner (Some found) path seen = inner found path seen >>= λ part. Ok (Some part.0, part.1)

-- `ScopeDownStatement`
abbrev pub scope_down_at : Reading → Data → List ℕ → ℕ → Result (Option Statement × ℕ) ReadFault
scope_down_at inner d path seen = optional_at d (codes "ScopeDownStatement") path >>= λ found. optional_part inner found (member_path path (codes "ScopeDownStatement")) seen

-- ---- rate-based statements

-- the number of `CustomKeys`, or 2^32 - 1 where there are more
abbrev pub custom_keys_at : Data → List ℕ → Result ℕ ReadFault
custom_keys_at d path = optional_list_at d (codes "CustomKeys") path >>= λ all. Ok (min (length all) 4294967295)

-- `CustomKeys` and `ScopeDownStatement`
abbrev pub rate_parts_at : Reading → Data → List ℕ → ℕ → Result (RateParts × ℕ) ReadFault
rate_parts_at inner d path seen = do
  custom_keys ← custom_keys_at d path
  scope_down ← scope_down_at inner d path seen
  Ok (record { custom_keys = custom_keys; scope_down = scope_down.0 }, scope_down.1)

-- the key of the rate-based statement of that rule of that group, which has no number that isn't whole
abbrev pub rate_key_of : List ℕ → List ℕ → Data → Data → List ℕ → Result (List ℕ) ReadFault
rate_key_of group rule d found path =
    if has_float (unscoped (codes "RateBasedStatement") found d) then Err (faults.Number path)
    else Ok (compact_text (rate_statement group rule (unscoped (codes "RateBasedStatement") found d)))

-- `RateBasedStatement`, whose value at `at` is `found`
abbrev pub rate_of : Reading → List ℕ → List ℕ → Data → ℕ → Data → List ℕ → List ℕ → Result (Statement × ℕ) ReadFault
rate_of inner group rule d seen found path at = do
  parts ← rate_parts_at inner found at seen
  key ← rate_key_of group rule d found path
  Ok (statements.Rate key parts.0.custom_keys parts.0.scope_down, parts.1)

-- `RateBasedStatement` of a statement
abbrev pub rate_at : Reading → List ℕ → List ℕ → Data → List ℕ → ℕ → Result (Statement × ℕ) ReadFault
rate_at inner group rule d path seen =
    member_at d (codes "RateBasedStatement") path >>= λ found. rate_of inner group rule d seen found path (member_path path (codes "RateBasedStatement"))

-- ---- managed rule groups

-- `VendorName`, `Name` and `Version`
abbrev pub managed_name_at : Data → List ℕ → Result ManagedName ReadFault
managed_name_at d path = do
  vendor ← text_member_at d (codes "VendorName") path
  name ← text_member_at d (codes "Name") path
  version ← optional_text_at d (codes "Version") path
  Ok (record { vendor = vendor; name = name; version = version })

-- the key of a managed rule group, which has no number that isn't whole
abbrev pub managed_key_of : Data → Data → List ℕ → Result (List ℕ) ReadFault
managed_key_of d found path =
    if has_float (unscoped (codes "ManagedRuleGroupStatement") found d) then Err (faults.Number path)
    else Ok (compact_text (unscoped (codes "ManagedRuleGroupStatement") found d))

-- `ManagedRuleGroupStatement`, whose value at `at` is `found`
abbrev pub managed_of : Reading → Data → ℕ → Data → List ℕ → List ℕ → Result (ManagedUse × ℕ) ReadFault
managed_of inner d seen found path at = do
  named ← managed_name_at found at
  scope_down ← scope_down_at inner found at seen
  key ← managed_key_of d found path
  Ok (record { key = key; vendor = named.vendor; name = named.name; version = named.version; scope_down = scope_down.0; count = false }, scope_down.1)

-- `ManagedRuleGroupStatement` of a statement
abbrev pub managed_at : Reading → Data → List ℕ → ℕ → Result (ManagedUse × ℕ) ReadFault
managed_at inner d path seen =
    member_at d (codes "ManagedRuleGroupStatement") path >>= λ found. managed_of inner d seen found path (member_path path (codes "ManagedRuleGroupStatement"))

-- `RuleGroupReferenceStatement` of a statement
unfoldable pub group_use_at : Data → List ℕ → Result GroupUse ReadFault
group_use_at d path = member_at d (codes "RuleGroupReferenceStatement") path >>= λ found. group_use_of found (member_path path (codes "RuleGroupReferenceStatement"))

-- ---- the top of a rule

-- the statement of that rule of that group, or of a web ACL where the group's name is empty
abbrev pub rule_kind : Reading → List RegexSet → Encoding → List ℕ → List ℕ → Option StatementKind → Data → List ℕ → ℕ → Result (Statement × ℕ) ReadFault
rule_kind inner sets encoding group rule (Some kinds.RateBased) d path seen = rate_at inner group rule d path seen
rule_kind inner sets encoding group rule kind d path seen = of_some_kind inner sets encoding kind d path seen

-- the statement at the top of a rule of a group
abbrev pub rule_statement_of : List RegexSet → Encoding → List ℕ → List ℕ → Data → List ℕ → ℕ → Result (Statement × ℕ) ReadFault
rule_statement_of sets encoding group rule d path seen = opened d path seen >>= λ now. rule_kind (statement_within part_levels sets encoding) sets encoding group rule (kind_of d) d path now

-- the statement of that rule of a web ACL
abbrev pub top_kind : Reading → List RegexSet → Encoding → List ℕ → Option StatementKind → Data → List ℕ → ℕ → Result (TopStatement × ℕ) ReadFault
top_kind inner sets encoding rule (Some kinds.RuleGroupReference) d path seen = group_use_at d path >>= λ group. Ok (tops.Group group, seen)
top_kind inner sets encoding rule (Some kinds.ManagedRuleGroup) d path seen = managed_at inner d path seen >>= λ managed. Ok (tops.Managed managed.0, managed.1)
top_kind inner sets encoding rule kind d path seen = rule_kind inner sets encoding [] rule kind d path seen >>= λ statement. Ok (tops.Plain statement.0, statement.1)

-- the statement at the top of a rule of a web ACL
abbrev pub top_statement_of : List RegexSet → Encoding → List ℕ → Data → List ℕ → ℕ → Result (TopStatement × ℕ) ReadFault
top_statement_of sets encoding rule d path seen = opened d path seen >>= λ now. top_kind (statement_within part_levels sets encoding) sets encoding rule (kind_of d) d path now
