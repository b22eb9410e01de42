-- The paths that the rules of a web ACL name (this project's own).
use Rattle.std.specs.Prelude.{ℕ, List, Bool, []}
use Rattle.std.specs.List.{list_any}
use Rattle.std.specs.Str.{bytes_eq}
use Rattle.waf_model.specs.declared.rule.Top.{Top}
use Rattle.waf_model.specs.declared.rule.Top.TheVariants.{Plain}
use Rattle.waf_model.specs.declared.rule.TopRule.{TopRule}
use Rattle.waf_model.specs.declared.statement.Statement.{Statement}
use Rattle.waf_model.specs.declared.statement.Statement.TheVariants.{ByteMatch}

-- the search string of a byte match, or the empty text for another statement
abbrev pub search_of : Statement → List ℕ
search_of (ByteMatch text field transforms position) = text
search_of statement = []

-- the search string of a rule, or the empty text where it has none
abbrev pub search_of_rule : Top → List ℕ
search_of_rule (Plain rule) = search_of rule.statement
search_of_rule body = []

-- some rule has the path as its search string
abbrev pub names : List TopRule → List ℕ → Bool
names rules path = list_any (λ rule. bytes_eq (search_of_rule rule.body) path) rules
