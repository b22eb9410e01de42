-- What a statement or a rule refers to by an ARN (API types `IPSetReferenceStatement`,
-- `RegexPatternSetReferenceStatement` and `RuleGroupReferenceStatement`), and whether a bundle has it.
use Rattle.std.specs.Prelude.{ℕ, List, [], ◌∷◌, Bool, is_some, find, Option, Some, None, unwrap_or, option_map}
use Rattle.std.specs.List.{flat_map}
use Rattle.std.specs.Str.{bytes_eq}
use Rattle.waf_model.specs.declared.bundle.Bundle.{Bundle}
use Rattle.waf_model.specs.declared.group.Group.{Group}
use Rattle.waf_model.specs.declared.rule.Top.{Top}
use Rattle.waf_model.specs.declared.rule.Top.TheVariants as tops
use Rattle.waf_model.specs.declared.sets.IpSet.{IpSet}
use Rattle.waf_model.specs.declared.sets.RegexSet.{RegexSet}
use Rattle.waf_model.specs.declared.statement.Statement.{Statement}
use Rattle.waf_model.specs.declared.statement.Statement.TheOpen.{Statement-F}
use Rattle.waf_model.specs.declared.statement.Statement.TheFolds.{fold-Statement}

-- a reference to an address set, a pattern set or a rule group, by its ARN
pub data Reference : Type 0 where
  addresses : (arn : List ℕ) → Reference
  patterns : (arn : List ℕ) → Reference
  group : (arn : List ℕ) → Reference

-- its ARN
abbrev pub arn_of : Reference → List ℕ
arn_of (addresses arn) = arn
arn_of (patterns arn) = arn
arn_of (group arn) = arn

-- those of a statement, with those of each part in its place
abbrev pub references_step : Statement-F (List Reference) → List Reference
references_step (Statement-F.PatternSet arn field transforms source) = patterns arn ∷ []
references_step (Statement-F.Ip arn forwarded) = addresses arn ∷ []
references_step (Statement-F.And parts) = flat_map (λ part. part) parts
references_step (Statement-F.Or parts) = flat_map (λ part. part) parts
references_step (Statement-F.Not part) = part
references_step (Statement-F.Rate key custom_keys scope_down) = unwrap_or scope_down []
references_step (Statement-F.Opaque key cost (Some arn)) = patterns arn ∷ []
references_step other = []

-- what the statement and its parts refer to, an outer statement before its parts, parts in their order
abbrev pub references : Statement → List Reference
references = fold-Statement (List Reference) references_step

-- what a rule of the web ACL refers to
abbrev pub references_of : Top → List Reference
references_of (tops.Plain rule) = references rule.statement
references_of (tops.Group use_of) = group use_of.arn ∷ []
references_of (tops.Managed use_of) = unwrap_or (option_map references use_of.scope_down) []

-- the first address set, pattern set or rule group of an ARN: of several with one ARN the first counts
abbrev pub addresses_of : List IpSet → List ℕ → Option IpSet
addresses_of sets arn = find (λ set. bytes_eq set.arn arn) sets

abbrev pub patterns_of : List RegexSet → List ℕ → Option RegexSet
patterns_of sets arn = find (λ set. bytes_eq set.arn arn) sets

abbrev pub group_of : List Group → List ℕ → Option Group
group_of groups arn = find (λ one. bytes_eq one.arn arn) groups

-- the bundle has it, each in its own list
abbrev pub is_listed : Bundle → Reference → Bool
is_listed bundle (addresses arn) = is_some (addresses_of bundle.ip_sets arn)
is_listed bundle (patterns arn) = is_some (patterns_of bundle.regex_sets arn)
is_listed bundle (group arn) = is_some (group_of bundle.groups arn)
