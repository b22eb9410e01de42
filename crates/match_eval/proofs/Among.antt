-- Labels that pass a test.
use Rattle.std.proofs.Common.{◌≡◌, ℕ, ◌↔◌, List, Bool, IsTrue, refl, sym, ap, ◌∙◌}
use Rattle.std.specs.List.{list_any}
use Rattle.std.proofs.lemmas.List.Folds.{Any-from_list_any, list_any-from_Any}
use Rattle.waf_model.specs.LabelMatch.{IsAmong}

-- some one of them does just where one that is among them does
pub any_is : (test : List ℕ → Bool) (labels : List (List ℕ)) (r : Bool) → r ≡ list_any test labels
    → IsTrue r ↔ ((label : List ℕ) × IsAmong labels label × IsTrue (test label))
any_is test labels r is = (forth, back)
  where
    forth : IsTrue r → (label : List ℕ) × IsAmong labels label × IsTrue (test label)
    forth passed = let h = Any-from_list_any test labels (sym is ∙ passed) in (h.1, (h.0, h.1, h.2, h.3, refl), h.4)

    back : (label : List ℕ) × IsAmong labels label × IsTrue (test label) → IsTrue r
    back (label, (k, x, inside, at, same), holds) = is ∙ list_any-from_Any test labels (k, x, inside, at, sym (ap test same) ∙ holds)
