-- The web ACLs that are reviewed yet: at most 1,000 rules, each of which allows or blocks by a match of the whole path
-- (this project's own).
use Rattle.std.specs.Prelude.{ℕ, ◌≡◌, List, [], length, codes, Bool, true, false, ◌&&◌, ◌==◌, nat_lt, if◌then◌else◌, All, Option, Some, None}
use Rattle.waf_model.specs.declared.action.Action.{Action}
use Rattle.waf_model.specs.declared.action.Action.TheVariants as actions
use Rattle.waf_model.specs.declared.bundle.Bundle.{Bundle}
use Rattle.waf_model.specs.declared.field.Field.TheVariants.{UriPath}
use Rattle.waf_model.specs.declared.matching.Position.TheVariants.{Exactly}
use Rattle.waf_model.specs.declared.rule.Top.{Top}
use Rattle.waf_model.specs.declared.rule.Top.TheVariants.{Plain}
use Rattle.waf_model.specs.declared.rule.TopRule.{TopRule}
use Rattle.waf_model.specs.declared.statement.Statement.{Statement}
use Rattle.waf_model.specs.declared.statement.Statement.TheVariants.{ByteMatch}
use Rattle.waf_model.specs.declared.transform.Transform.TheVariants.{KeepAll}
use Rattle.parting_build.specs.FirstInFile.{first_in_file, path_of_rule}
use Rattle.parting_build.specs.WholePath.{is_whole_path}

-- the most rules of a web ACL that is reviewed, as long as a review tries each path
abbrev pub most_rules : ℕ
most_rules = 1000

-- ---- in words

-- the statement is a byte match of the whole path, whose transformations are all NONE
abbrev pub IsPathMatch : Statement → Type 0
IsPathMatch (ByteMatch search field transforms position) =
    (field ≡ UriPath) × (position ≡ Exactly) × All (λ t. t ≡ KeepAll) transforms
IsPathMatch statement = ⊥

-- the action is Allow or Block
abbrev pub IsAllowOrBlock : Action → Type 0
IsAllowOrBlock actions.Allow = Unit {0}
IsAllowOrBlock (actions.Block code) = Unit {0}
IsAllowOrBlock action = ⊥

-- a plain rule with Allow or Block and without labels, whose statement is a match of the whole path
abbrev pub IsPathRule : Top → Type 0
IsPathRule (Plain rule) = IsPathMatch rule.statement × IsAllowOrBlock rule.action × (rule.labels ≡ [])
IsPathRule body = ⊥

-- each rule is such a rule
abbrev pub HasPathRules : Bundle → Type 0
HasPathRules bundle = All (λ top. IsPathRule top.body) bundle.acl.rules

-- ---- as a test

abbrev pub is_path_match : Statement → Bool
is_path_match (ByteMatch search field transforms position) = is_whole_path field transforms position
is_path_match statement = false

abbrev pub allows_or_blocks : Action → Bool
allows_or_blocks actions.Allow = true
allows_or_blocks (actions.Block code) = true
allows_or_blocks action = false

abbrev pub is_path_rule : Top → Bool
is_path_rule (Plain rule) = is_path_match rule.statement && (allows_or_blocks rule.action && length rule.labels == 0)
is_path_rule body = false

-- the path of a rule that is not such a rule
abbrev pub unplain_rule : TopRule → Option (List ℕ)
unplain_rule top = if is_path_rule top.body then None else Some (path_of_rule top.place)

-- Why a web ACL is not reviewed yet: the path of its rules where there are too many, or else of the rule that is not such a
-- rule and stands first in the file.
abbrev pub plain_form_of : Bundle → Option (List ℕ)
plain_form_of bundle =
    if nat_lt most_rules (length bundle.acl.rules) then Some (codes "$.WebACL.Rules") else first_in_file unplain_rule bundle.acl.rules

-- a place in the file, and the path of the rule there
abbrev pub placed : ℕ → ℕ × List ℕ
placed place = (place, path_of_rule place)
