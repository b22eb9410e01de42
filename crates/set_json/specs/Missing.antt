-- Which reference of a bundle is in no list: the first one, those of the web ACL before those of the rule groups, the
-- rules in the order of the file (this project's own).
use Rattle.std.specs.Prelude.{ℕ, List, [], ◌∷◌, fold, find, not, nat_lt, if◌then◌else◌, Option, Some, None, option_map}
use Rattle.std.specs.Option.{option_or}
use Rattle.waf_model.specs.References.{Reference, arn_of, is_listed, references, references_of}
use Rattle.waf_model.specs.declared.bundle.Bundle.{Bundle}
use Rattle.waf_model.specs.declared.group.Group.{Group}
use Rattle.waf_model.specs.declared.rule.Rule.{Rule}
use Rattle.waf_model.specs.declared.rule.TopRule.{TopRule}

-- the ARN of the first of these references that the bundle doesn't have
abbrev pub first_missing : Bundle → List Reference → Option (List ℕ)
first_missing bundle all = option_map arn_of (find (λ reference. not (is_listed bundle reference)) all)

-- what a rule at a place of the file misses, with its place
abbrev pub placed : ℕ → Option (List ℕ) → Option (ℕ × List ℕ)
placed place None = None
placed place (Some arn) = Some (place, arn)

-- of two rules that miss something, the one that stands first in the file
abbrev pub sooner : Option (ℕ × List ℕ) → Option (ℕ × List ℕ) → Option (ℕ × List ℕ)
sooner None other = other
sooner (Some one) None = Some one
sooner (Some one) (Some other) = if nat_lt other.0 one.0 then Some other else Some one

-- what the rules of the web ACL miss first, in the order of the file
abbrev pub missing_of_acl : Bundle → List TopRule → Option (ℕ × List ℕ)
missing_of_acl bundle rules = fold (λ found rule. sooner found (placed rule.place (first_missing bundle (references_of rule.body)))) None rules

-- what the rules of a group miss first, in the order of the file
abbrev pub missing_of_rules : Bundle → List Rule → Option (ℕ × List ℕ)
missing_of_rules bundle rules = fold (λ found rule. sooner found (placed rule.place (first_missing bundle (references rule.statement)))) None rules

-- the ARN without its place
abbrev pub told : Option (ℕ × List ℕ) → Option (List ℕ)
told found = option_map (λ one. one.1) found

-- what the groups miss first, in the order of their list
abbrev pub missing_of_groups : Bundle → List Group → Option (List ℕ)
missing_of_groups bundle [] = None
missing_of_groups bundle (group ∷ groups) = option_or (told (missing_of_rules bundle group.rules)) (missing_of_groups bundle groups)

-- what the bundle misses first
abbrev pub missing_of : Bundle → Option (List ℕ)
missing_of bundle = option_or (told (missing_of_acl bundle bundle.acl.rules)) (missing_of_groups bundle bundle.groups)
