-- What every web ACL and every rule group that is read keeps to.
use Rattle.std.specs.Prelude.{◌≡◌, ℕ, ◌<◌, ◌≤◌, ◌++◌, List, length, map, codes, All, AllPairs, IsPermutation, IsTrue}
use Rattle.std.specs.List.{range_with_len}
use Rattle.waf_model.specs.SoundStatement.{is_sound_statement, is_sound_top}
use Rattle.waf_model.specs.declared.group.Group.{Group}
use Rattle.waf_model.specs.declared.rule.Top.{Top}
use Rattle.waf_model.specs.declared.rule.Top.TheVariants.{Plain}
use Rattle.waf_model.specs.declared.rule.TopRule.{TopRule}
use Rattle.waf_model.specs.declared.web_acl.Acl.{Acl}

-- a label namespace begins `awswaf:` and ends in `:`, which may be the same colon (AWS WAF Developer Guide, "Label
-- syntax and naming requirements")
abbrev pub IsNamespace : List ℕ → Type 0
IsNamespace namespace = ((rest : List ℕ) × (namespace ≡ codes "awswaf:" ++ rest)) × ((front : List ℕ) × (namespace ≡ front ++ codes ":"))

-- the priorities of the rules ascend, and their places are 0 to their number less one, each once
pub record IsInOrder (priorities places : List ℕ) : Type 0 where
  pub ascend : AllPairs (λ a b. a < b) priorities
  pub each_place : IsPermutation (range_with_len 0 (length places)) places

-- a plain rule has the name, priority and place of the rule that it is
abbrev pub IsSameRule : TopRule → Top → Type 0
IsSameRule top (Plain rule) = (rule.name ≡ top.name) × (rule.priority ≡ top.priority) × (rule.place ≡ top.place)
IsSameRule top body = Unit {0}

-- the most bytes of a body that a web ACL may inspect (API field `DefaultSizeInspectionLimit`)
abbrev pub greatest_body_limit : ℕ
greatest_body_limit = 65536

-- what holds of every web ACL that is read
pub record IsSound (acl : Acl) : Type 0 where
  pub namespace : IsNamespace acl.namespace
  pub order : IsInOrder (map (λ top. top.priority) acl.rules) (map (λ top. top.place) acl.rules)
  pub plain : All (λ top. IsSameRule top top.body) acl.rules
  pub statements : All (λ top. IsTrue (is_sound_top top.body)) acl.rules
  pub limit : acl.body_limit ≤ greatest_body_limit

-- what holds of every rule group that is read
pub record IsSoundGroup (group : Group) : Type 0 where
  pub namespace : IsNamespace group.namespace
  pub order : IsInOrder (map (λ rule. rule.priority) group.rules) (map (λ rule. rule.place) group.rules)
  pub statements : All (λ rule. IsTrue (is_sound_statement rule.statement)) group.rules
