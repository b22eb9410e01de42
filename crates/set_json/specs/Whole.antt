-- What every bundle that is read keeps to, beside what its web ACL and its rule groups keep to by themselves (this
-- project's own).
use Rattle.std.specs.Prelude.{All, IsTrue}
use Rattle.std.specs.List.{list_all}
use Rattle.waf_model.specs.PatternOrder.{is_ordered}
use Rattle.waf_model.specs.References.{is_listed, references_of}
use Rattle.waf_model.specs.WholeBundle.{HasReferences}
use Rattle.waf_model.specs.declared.bundle.Bundle.{Bundle}
use Rattle.waf_model.specs.declared.sets.RegexSet.{RegexSet}

-- no repetition of a pattern of the set has `most` less than `least`
abbrev pub IsOrderedSet : RegexSet → Type 0
IsOrderedSet set = IsTrue (list_all is_ordered set.patterns)

-- what the rules of the web ACL and of the groups refer to is in the bundle
pub record HasAll (bundle : Bundle) : Type 0 where
  pub acl_references : All (λ top. IsTrue (list_all (is_listed bundle) (references_of top.body))) bundle.acl.rules
  pub group_references : All (HasReferences bundle) bundle.groups
