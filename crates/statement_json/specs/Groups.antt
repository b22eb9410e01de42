-- How references to rule groups are read (API type `RuleGroupReferenceStatement`). Whether the group only counts is
-- read of the rule.
use Rattle.std.specs.Prelude.{ℕ, List, codes, false, Result, Ok}
use Rattle.serde_json.specs.Data.{Data}
use Rattle.json_view.specs.Words.{each_of, optional_list_at, text_member_at}
use Rattle.waf_model.specs.Gives.{◌>>=◌}
use Rattle.waf_model.specs.Json.{member_path}
use Rattle.waf_model.specs.declared.read_fault.ReadFault.{ReadFault}
use Rattle.waf_model.specs.declared.rule.GroupUse.{GroupUse}
use Rattle.waf_model.specs.declared.rule.Override.{Override}
use Rattle.statement_json.specs.Actions.{action_at}
use Rattle.statement_json.specs.Matches.{arn_at}

-- a rule that is excluded: its `Name`
abbrev pub excluded_of : Data → List ℕ → Result (List ℕ) ReadFault
excluded_of d path = text_member_at d (codes "Name") path

-- `ExcludedRules`
unfoldable pub excluded_at : Data → List ℕ → Result (List (List ℕ)) ReadFault
excluded_at d path = optional_list_at d (codes "ExcludedRules") path >>= λ all. each_of excluded_of all (member_path path (codes "ExcludedRules"))

-- another action for a rule: its `Name` and `ActionToUse`
unfoldable pub override_of : Data → List ℕ → Result Override ReadFault
override_of d path = do
  name ← text_member_at d (codes "Name") path
  action ← action_at (codes "ActionToUse") d path
  Ok (record { name = name; action = action })

-- `RuleActionOverrides`
unfoldable pub overrides_at : Data → List ℕ → Result (List Override) ReadFault
overrides_at d path = optional_list_at d (codes "RuleActionOverrides") path >>= λ all. each_of override_of all (member_path path (codes "RuleActionOverrides"))

-- `RuleGroupReferenceStatement`
unfoldable pub group_use_of : Data → List ℕ → Result GroupUse ReadFault
group_use_of d path = do
  arn ← arn_at d path
  excluded ← excluded_at d path
  overrides ← overrides_at d path
  Ok (record { arn = arn; overrides = overrides; excluded = excluded; count = false })
