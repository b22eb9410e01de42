-- How rules are read (API type `Rule`): of a web ACL, and of a rule group.
use Rattle.std.specs.Prelude.{ℕ, ◌+◌, List, [], ◌∷◌, map, fold, codes, Bool, true, false, not, ◌==◌, if◌then◌else◌, Option, Some, None, Result, Ok, Err}
use Rattle.std.specs.BTreeMap.{insert_entry}
use Rattle.std.specs.List.{list_any}
use Rattle.std.specs.Map.{values_of}
use Rattle.std.specs.Ordering.{nat_cmp}
use Rattle.serde_json.specs.Data.{Data}
use Rattle.json_view.specs.Words.{each_of, ensured, is_there, label_at, limited, name_at, named_count, optional_list_at, whole_member_at}
use Rattle.statement_json.specs.Actions.{action_at}
use Rattle.statement_json.specs.Tops.{rule_statement_of, top_statement_of}
use Rattle.statement_json.specs.Transforms.{greatest_priority}
use Rattle.statement_json.specs.declared.encoding.Encoding.{Encoding}
use Rattle.statement_json.specs.declared.top.TopStatement.{TopStatement}
use Rattle.statement_json.specs.declared.top.TopStatement.TheVariants as statements
use Rattle.waf_model.specs.Gives.{◌>>=◌}
use Rattle.waf_model.specs.Json.{index_path, list_at, member_at, member_path, optional_at}
use Rattle.waf_model.specs.declared.action.Action.TheVariants as actions
use Rattle.waf_model.specs.declared.read_fault.ReadFault.{ReadFault}
use Rattle.waf_model.specs.declared.read_fault.ReadFault.TheVariants as faults
use Rattle.waf_model.specs.declared.rule.Rule.{Rule}
use Rattle.waf_model.specs.declared.rule.Top.{Top}
use Rattle.waf_model.specs.declared.rule.Top.TheVariants as tops
use Rattle.waf_model.specs.declared.rule.TopRule.{TopRule}
use Rattle.waf_model.specs.declared.sets.RegexSet.{RegexSet}
use Rattle.waf_model.specs.declared.statement.Statement.{Statement}
use Rattle.acl_json.specs.Immunity.{immunity_at}
use Rattle.acl_json.specs.declared.rule.RuleParts.{RuleParts}

-- `Priority`, which no earlier rule of the list has
unfoldable pub fresh_priority_at : Data → List ℕ → List ℕ → Result ℕ ReadFault
fresh_priority_at d earlier path = do
  priority ← whole_member_at d (codes "Priority") 0 greatest_priority path
  fresh ← ensured (not (list_any (λ other. other == priority) earlier)) (faults.SamePriority priority)
  Ok priority

-- ---- what a rule does

-- a label that a rule adds: its `Name`
abbrev pub label_of : Data → List ℕ → Result (List ℕ) ReadFault
label_of d path = label_at d (codes "Name") path

-- a rule adds at most so many labels (this project's own)
abbrev pub most_labels : ℕ
most_labels = 100

-- the labels of a list
abbrev pub labels_of : List Data → List ℕ → Result (List (List ℕ)) ReadFault
labels_of all path = limited most_labels all path >>= λ few. each_of label_of few path

-- `RuleLabels`
unfoldable pub labels_at : Data → List ℕ → Result (List (List ℕ)) ReadFault
labels_at d path = optional_list_at d (codes "RuleLabels") path >>= λ all. labels_of all (member_path path (codes "RuleLabels"))

-- whether a group only counts: exactly one member names None or Count
abbrev pub counting_of : Data → List ℕ → Result Bool ReadFault
counting_of d path = if named_count (codes "None" ∷ codes "Count" ∷ []) d == 1 then Ok (is_there (codes "Count") d) else Err (faults.Action path)

abbrev pub needed_counting : Option Data → List ℕ → Result Bool ReadFault
needed_counting None path = Err (faults.Action path)
needed_counting (Some found) path = counting_of found path

-- `OverrideAction`; the members after it are unread
unfoldable pub counting_at : Data → List ℕ → Result Bool ReadFault
counting_at d path = optional_at d (codes "OverrideAction") path >>= λ found. needed_counting found (member_path path (codes "OverrideAction"))

-- ---- behind the statement

-- a rule with an action has these members behind its statement
abbrev pub action_parts_at : Data → List ℕ → Result RuleParts ReadFault
action_parts_at d path = do
  action ← action_at (codes "Action") d path
  labels ← labels_at d path
  captcha ← immunity_at (codes "CaptchaConfig") d path
  challenge ← immunity_at (codes "ChallengeConfig") d path
  Ok (record { action = action; labels = labels; captcha = captcha; challenge = challenge; count = false })

-- a rule with a group has an override action alone; it has no action, labels or times of its own
abbrev pub group_parts_at : Data → List ℕ → Result RuleParts ReadFault
group_parts_at d path = counting_at d path >>= λ count. Ok (record { action = actions.Count; labels = []; captcha = None; challenge = None; count = count })

-- the statement is a group, which needs an override action; every other rule needs an action
abbrev pub is_group : TopStatement → Bool
is_group (statements.Plain statement) = false
is_group (statements.Group group) = true
is_group (statements.Managed managed) = true

-- what stands behind the statement of a rule of a web ACL
unfoldable pub parts_at : Bool → Data → List ℕ → Result RuleParts ReadFault
parts_at group d path = if group then group_parts_at d path else action_parts_at d path

-- the rule of that name, priority, place and statement
abbrev pub rule_with : List ℕ → ℕ → ℕ → Statement → RuleParts → Rule
rule_with name priority place statement parts =
    record { name = name; priority = priority; place = place; statement = statement; action = parts.action; labels = parts.labels; captcha = parts.captcha; challenge = parts.challenge }

-- what a rule of a web ACL is, by its statement and what stands behind it
abbrev pub body_with : List ℕ → ℕ → ℕ → TopStatement → RuleParts → Top
body_with name priority place (statements.Plain statement) parts = tops.Plain (rule_with name priority place statement parts)
body_with name priority place (statements.Group group) parts = tops.Group (record group { count = parts.count })
body_with name priority place (statements.Managed managed) parts = tops.Managed (record managed { count = parts.count })

-- ---- rules

-- What is read of one rule at a place, after rules of these priorities and so many statements, and how many statements
-- were read then.
abbrev pub RuleReading : Type 0 → Type 0
RuleReading R = ℕ → List ℕ → Data → List ℕ → ℕ → Result (R × ℕ) ReadFault

-- `Statement` of that rule of a web ACL
abbrev pub top_at : List RegexSet → Encoding → List ℕ → Data → List ℕ → ℕ → Result (TopStatement × ℕ) ReadFault
top_at sets encoding rule d path seen = member_at d (codes "Statement") path >>= λ found. top_statement_of sets encoding rule found (member_path path (codes "Statement")) seen

-- `Statement` of that rule of that group
abbrev pub statement_at : List RegexSet → Encoding → List ℕ → List ℕ → Data → List ℕ → ℕ → Result (Statement × ℕ) ReadFault
statement_at sets encoding group rule d path seen = member_at d (codes "Statement") path >>= λ found. rule_statement_of sets encoding group rule found (member_path path (codes "Statement")) seen

-- a rule of a web ACL
unfoldable pub top_rule_at : List RegexSet → Encoding → RuleReading TopRule
top_rule_at sets encoding place earlier d path seen = do
  name ← name_at d path
  priority ← fresh_priority_at d earlier path
  top ← top_at sets encoding name d path seen
  parts ← parts_at (is_group top.0) d path
  Ok (record { name = name; priority = priority; place = place; body = body_with name priority place top.0 parts }, top.1)

-- a rule of that group
unfoldable pub group_rule_at : List RegexSet → Encoding → List ℕ → RuleReading Rule
group_rule_at sets encoding group place earlier d path seen = do
  name ← name_at d path
  priority ← fresh_priority_at d earlier path
  statement ← statement_at sets encoding group name d path seen
  parts ← parts_at false d path
  Ok (rule_with name priority place statement.0 parts, statement.1)

-- the rules of a list from a place on, in the order of the file
abbrev pub rules_from : {R : Type 0} → RuleReading R → (R → ℕ) → ℕ → List ℕ → List Data → List ℕ → ℕ → Result (List R × ℕ) ReadFault
rules_from read priority_of place earlier [] path seen = Ok ([], seen)
rules_from read priority_of place earlier (d ∷ ds) path seen = do
  rule ← read place earlier d (index_path path place) seen
  rest ← rules_from read priority_of (place + 1) (priority_of rule.0 ∷ earlier) ds path rule.1
  Ok (rule.0 ∷ rest.0, rest.1)

-- each rule at its priority, by ascending priority
abbrev pub entries_of : {R : Type 0} → (R → ℕ) → List R → List (ℕ × R)
entries_of priority_of rules = fold (λ entries rule. insert_entry nat_cmp entries (priority_of rule) rule) [] rules

-- the rules by ascending priority
abbrev pub by_priority : {R : Type 0} → (R → ℕ) → List R → List R
by_priority priority_of rules = values_of (entries_of priority_of rules)

-- the rules of a list, by ascending priority
abbrev pub ordered_rules : {R : Type 0} → RuleReading R → (R → ℕ) → List Data → List ℕ → ℕ → Result (List R × ℕ) ReadFault
ordered_rules read priority_of all path seen = rules_from read priority_of 0 [] all path seen >>= λ rules. Ok (by_priority priority_of rules.0, rules.1)

abbrev pub optional_rules : {R : Type 0} → RuleReading R → (R → ℕ) → Option Data → List ℕ → ℕ → Result (List R × ℕ) ReadFault
optional_rules read priority_of None path seen = Ok ([], seen)
optional_rules read priority_of (Some found) path seen = list_at found path >>= λ all. ordered_rules read priority_of all path seen

-- `Rules`, by ascending priority; none where there is no such member
abbrev pub rules_at : {R : Type 0} → RuleReading R → (R → ℕ) → Data → List ℕ → ℕ → Result (List R × ℕ) ReadFault
rules_at read priority_of d path seen = optional_at d (codes "Rules") path >>= λ found. optional_rules read priority_of found (member_path path (codes "Rules")) seen
