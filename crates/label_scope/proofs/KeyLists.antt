-- Keys that are put behind others one by one.
use Rattle.std.proofs.Common.{◌≡◌, List, [], ◌∷◌, ◌++◌, map, sym, ◌∙◌, append_assoc}
use Rattle.std.proofs.lemmas.List.{append-nil}
use Rattle.std.proofs.lemmas.List.Sums.{fold-append}
use Rattle.label_scope.specs.Vocabulary.{label_key, with_keys}
use Rattle.label_scope.specs.declared.label_keys.LabelKey.{LabelKey}
use Rattle.waf_model.specs.LabelAgreement.{LabelTest}

behind : (keys : List LabelKey) (tests : List LabelTest) → with_keys keys tests ≡ keys ++ map label_key tests
behind keys [] = sym (append-nil keys)
behind keys (test ∷ tests) = behind (keys ++ label_key test ∷ []) tests ∙ append_assoc keys (label_key test ∷ []) (map label_key tests)

-- the keys of two lists of statements, one after another
pub all_keys : (first second : List LabelTest) → with_keys (with_keys [] first) second ≡ map label_key (first ++ second)
all_keys first second =
    sym (fold-append (λ (before : List LabelKey) (test : LabelTest). before ++ label_key test ∷ []) [] first second) ∙ behind [] (first ++ second)
