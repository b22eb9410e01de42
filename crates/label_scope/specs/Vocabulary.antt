-- The labels by which two web ACLs can tell the answers of managed rule groups apart (this project's own): for each label key
-- that means labels of managed rule groups one of these.
use Rattle.std.specs.Prelude.{ℕ, List, [], ◌∷◌, ◌++◌, ◌+◌, ◌==◌, codes, fold, length, map, max, replicate, if◌then◌else◌}
use Rattle.std.specs.BTreeSet.{insert_key}
use Rattle.std.specs.Cmp.Lexicographic.{slice_cmp}
use Rattle.std.specs.List.{flat_map, starts_with}
use Rattle.std.specs.Ordering.{nat_cmp}
use Rattle.label_scope.specs.declared.label_keys.LabelKey.{LabelKey}
use Rattle.waf_model.specs.LabelAgreement.{LabelTest, is_managed_label, key_of_test, pair_label_tests}
use Rattle.waf_model.specs.LabelMatch.{ended}
use Rattle.waf_model.specs.declared.bundle.Bundle.{Bundle}
use Rattle.waf_model.specs.declared.matching.LabelScope.{LabelScope}
use Rattle.waf_model.specs.declared.matching.LabelScope.TheVariants as scopes

-- ---- label keys

-- the key of a label match statement, behind its namespace unless it is a whole one, and the scope of the statement
abbrev pub label_key : LabelTest → LabelKey
label_key test = record { scope = test.scope; key = key_of_test test }

-- keys with those of further statements behind them, one after another
abbrev pub with_keys : List LabelKey → List LabelTest → List LabelKey
with_keys keys tests = fold (λ before test. before ++ label_key test ∷ []) keys tests

-- those of two bundles, of all their rule groups, those that nothing refers to among them
abbrev pub label_keys : Bundle → Bundle → List LabelKey
label_keys old new = map label_key (pair_label_tests old new)

-- ---- the filler

-- the length of the longest key, as it is, without a `:` that is added; 0 where there is no key
abbrev pub longest_key : List LabelKey → ℕ
longest_key keys = fold (λ longest one. max longest (length one.key)) 0 keys

-- letters `x`, one more than the longest key has bytes
abbrev pub filler : List LabelKey → List ℕ
filler keys = replicate (longest_key keys + 1) 120

-- ---- the labels

-- what each label of a managed rule group begins with
abbrev pub managed_front : List ℕ
managed_front = codes "awswaf:managed:"

-- The label for those below a NAMESPACE key, which is ended by `:`: the key and the filler where it begins `awswaf:managed:`,
-- this and the filler where the key is a proper prefix of it, and else none.
abbrev pub labels_below : List ℕ → List ℕ → List (List ℕ)
labels_below more key =
    if is_managed_label key then (key ++ more) ∷ []
    else if starts_with ◌==◌ managed_front key then (managed_front ++ more) ∷ [] else []

-- the label that a label key means, where it is one of a managed rule group
abbrev pub labels_meant : List ℕ → List (List ℕ)
labels_meant key = if is_managed_label key then key ∷ [] else []

-- those of one key, with this filler
abbrev pub labels_by_scope : List ℕ → LabelScope → List ℕ → List (List ℕ)
labels_by_scope more scopes.Label key = labels_meant key
labels_by_scope more scopes.Namespace key = labels_below more (ended key)

abbrev pub labels_of_key : List ℕ → LabelKey → List (List ℕ)
labels_of_key more one = labels_by_scope more one.scope one.key

-- ---- the vocabulary

-- labels with further ones put in their places by bytes, each once
abbrev pub put_in_order : List (List ℕ) → List (List ℕ) → List (List ℕ)
put_in_order labels more = fold (insert_key (slice_cmp nat_cmp)) labels more

-- the labels of all these keys, ascending by bytes, each once
abbrev pub vocabulary_of_keys : List LabelKey → List (List ℕ)
vocabulary_of_keys keys = put_in_order [] (flat_map (labels_of_key (filler keys)) keys)

-- those of all label keys of two bundles
abbrev pub vocabulary_of : Bundle → Bundle → List (List ℕ)
vocabulary_of old new = vocabulary_of_keys (label_keys old new)
