-- How many statements a bundle has (this project's own): each statement with all its parts, each reference to a rule
-- group and each managed rule group.
use Rattle.std.specs.Prelude.{ℕ, ◌+◌, sum, sum_by, unwrap_or, option_map}
use Rattle.waf_model.specs.declared.bundle.Bundle.{Bundle}
use Rattle.waf_model.specs.declared.group.Group.{Group}
use Rattle.waf_model.specs.declared.rule.Top.{Top}
use Rattle.waf_model.specs.declared.rule.Top.TheVariants as tops
use Rattle.waf_model.specs.declared.statement.Statement.{Statement}
use Rattle.waf_model.specs.declared.statement.Statement.TheOpen.{Statement-F}
use Rattle.waf_model.specs.declared.statement.Statement.TheFolds.{fold-Statement}

-- one for the statement, and the number of each part in its place
abbrev pub count_step : Statement-F ℕ → ℕ
count_step (Statement-F.And parts) = 1 + sum parts
count_step (Statement-F.Or parts) = 1 + sum parts
count_step (Statement-F.Not part) = 1 + part
count_step (Statement-F.Rate key custom_keys scope_down) = 1 + unwrap_or scope_down 0
count_step other = 1

-- the statement and all its parts
abbrev pub statement_count : Statement → ℕ
statement_count = fold-Statement ℕ count_step

-- those of a rule of the web ACL
abbrev pub top_count : Top → ℕ
top_count (tops.Plain rule) = statement_count rule.statement
top_count (tops.Group use_of) = 1
top_count (tops.Managed use_of) = 1 + unwrap_or (option_map statement_count use_of.scope_down) 0

-- those of a rule group
abbrev pub group_count : Group → ℕ
group_count group = sum_by (λ rule. statement_count rule.statement) group.rules

-- those of the web ACL and of all rule groups of the bundle
abbrev pub bundle_count : Bundle → ℕ
bundle_count bundle = sum_by (λ top. top_count top.body) bundle.acl.rules + sum_by group_count bundle.groups
