-- Which of some rules stands first in the file (this project's own).
use Rattle.std.specs.Prelude.{ℕ, List, codes, fold, nat_lt, if◌then◌else◌, Option, Some, None, option_map}
use Rattle.waf_model.specs.Json.{index_path}
use Rattle.waf_model.specs.declared.rule.TopRule.{TopRule}

-- the path of a rule of the web ACL, by its place in the file
abbrev pub path_of_rule : ℕ → List ℕ
path_of_rule place = index_path (codes "$.WebACL.Rules") place

-- of a path that was found at a place before, and one that may be found at this place: the one at the lesser place
abbrev pub earlier : Option (ℕ × List ℕ) → ℕ → Option (List ℕ) → Option (ℕ × List ℕ)
earlier first place None = first
earlier None place (Some path) = Some (place, path)
earlier (Some first) place (Some path) = if nat_lt place first.0 then Some (place, path) else Some first

-- of the rules for which there is a path, the path of that which stands first in the file: rules are kept by priority, so
-- it is the one with the least place
abbrev pub first_in_file : (TopRule → Option (List ℕ)) → List TopRule → Option (List ℕ)
first_in_file path_of rules = option_map (λ first. first.1) (fold (λ first rule. earlier first rule.place (path_of rule)) None rules)
