-- Which labels two web ACLs don't tell apart (this project's own): labels of which each label match of either bundle holds
-- alike.
use Rattle.std.specs.Prelude.{◌≡◌, ℕ, List, [], ◌∷◌, ◌++◌, codes, Bool, true, false, not, ◌==◌, if◌then◌else◌, All, unwrap_or}
use Rattle.std.specs.List.{flat_map, list_all, list_any, starts_with}
use Rattle.std.specs.Option.{option_map_or}
use Rattle.waf_model.specs.LabelMatch.{full_key, label_holds}
use Rattle.waf_model.specs.declared.bundle.Bundle.{Bundle}
use Rattle.waf_model.specs.declared.group.Group.{Group}
use Rattle.waf_model.specs.declared.matching.LabelScope.{LabelScope}
use Rattle.waf_model.specs.declared.rule.Top.{Top}
use Rattle.waf_model.specs.declared.rule.Top.TheVariants as tops
use Rattle.waf_model.specs.declared.statement.Statement.{Statement}
use Rattle.waf_model.specs.declared.statement.Statement.TheOpen.{Statement-F}
use Rattle.waf_model.specs.declared.statement.Statement.TheFolds.{fold-Statement}

-- ---- label tests

-- a label match statement, in the namespace of its web ACL or group
pub record LabelTest : Type 0 where
  pub scope : LabelScope
  pub key : List ℕ
  pub namespace : List ℕ

-- it holds of the label
abbrev pub test_holds : LabelTest → List ℕ → Bool
test_holds test label = label_holds test.scope test.key test.namespace label

-- its key, behind the namespace unless it is a whole one
abbrev pub key_of_test : LabelTest → List ℕ
key_of_test test = full_key test.key test.namespace

-- those of one statement in that namespace, with those of each part in its place
abbrev pub label_tests_step : List ℕ → Statement-F (List LabelTest) → List LabelTest
label_tests_step namespace (Statement-F.Label scope key) = record { scope = scope; key = key; namespace = namespace } ∷ []
label_tests_step namespace (Statement-F.And parts) = flat_map (λ part. part) parts
label_tests_step namespace (Statement-F.Or parts) = flat_map (λ part. part) parts
label_tests_step namespace (Statement-F.Not part) = part
label_tests_step namespace (Statement-F.Rate key custom_keys scope_down) = unwrap_or scope_down []
label_tests_step namespace other = []

-- those of a statement and its parts
abbrev pub label_tests_in : List ℕ → Statement → List LabelTest
label_tests_in namespace = fold-Statement (List LabelTest) (label_tests_step namespace)

-- those of a rule of the web ACL
abbrev pub label_tests_of_top : List ℕ → Top → List LabelTest
label_tests_of_top namespace (tops.Plain rule) = label_tests_in namespace rule.statement
label_tests_of_top namespace (tops.Group use_of) = []
label_tests_of_top namespace (tops.Managed use_of) = option_map_or (label_tests_in namespace) use_of.scope_down []

-- those of a rule group
abbrev pub label_tests_of_group : Group → List LabelTest
label_tests_of_group group = flat_map (λ rule. label_tests_in group.namespace rule.statement) group.rules

-- those of the web ACL and of all rule groups of the bundle
abbrev pub label_tests : Bundle → List LabelTest
label_tests bundle =
    flat_map (λ top. label_tests_of_top bundle.acl.namespace top.body) bundle.acl.rules ++ flat_map label_tests_of_group bundle.groups

-- those of two bundles
abbrev pub pair_label_tests : Bundle → Bundle → List LabelTest
pair_label_tests old new = label_tests old ++ label_tests new

-- ---- labels that agree

-- each label test of either bundle holds of both labels or of neither
abbrev pub Agree : Bundle → Bundle → List ℕ → List ℕ → Type 0
Agree old new a b = All (λ test. test_holds test a ≡ test_holds test b) (pair_label_tests old new)

-- both are true, or both are false
abbrev pub same_truth : Bool → Bool → Bool
same_truth true other = other
same_truth false other = not other

-- the same as a test
abbrev pub labels_agree : Bundle → Bundle → List ℕ → List ℕ → Bool
labels_agree old new a b = list_all (λ test. same_truth (test_holds test a) (test_holds test b)) (pair_label_tests old new)

-- some of the labels agrees with the label
abbrev pub some_agrees : Bundle → Bundle → List ℕ → List (List ℕ) → Bool
some_agrees old new label labels = list_any (labels_agree old new label) labels

-- the label begins as those of managed rule groups do (AWS WAF Developer Guide, "Label syntax and naming requirements"; that
-- answers keep to it is this project's own)
abbrev pub is_managed_label : List ℕ → Bool
is_managed_label label = starts_with ◌==◌ label (codes "awswaf:managed:")
