-- What every bundle that is read keeps to: its web ACL, its groups and its sets are sound, all that is referred to is in
-- its list, and there are not more statements, transformations and costs than are counted.
use Rattle.std.specs.Prelude.{ℕ, All, IsTrue}
use Rattle.std.specs.List.{list_all}
use Rattle.waf_model.specs.Cost.{IsCounted}
use Rattle.waf_model.specs.PatternOrder.{is_ordered}
use Rattle.waf_model.specs.References.{is_listed, references, references_of}
use Rattle.waf_model.specs.WebAcl.{IsSound, IsSoundGroup}
use Rattle.waf_model.specs.declared.bundle.Bundle.{Bundle}
use Rattle.waf_model.specs.declared.group.Group.{Group}

-- what each rule of the group refers to is in the bundle
abbrev pub HasReferences : Bundle → Group → Type 0
HasReferences bundle group = All (λ rule. IsTrue (list_all (is_listed bundle) (references rule.statement))) group.rules

pub record IsWhole (bundle : Bundle) : Type 0 where
  pub acl : IsSound bundle.acl
  pub groups : All IsSoundGroup bundle.groups
  pub patterns : All (λ set. IsTrue (list_all is_ordered set.patterns)) bundle.regex_sets
  pub acl_references : All (λ top. IsTrue (list_all (is_listed bundle) (references_of top.body))) bundle.acl.rules
  pub group_references : All (HasReferences bundle) bundle.groups
  pub counted : IsCounted bundle
