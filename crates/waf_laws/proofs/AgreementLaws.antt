-- Labels agree exactly where the truth value says so.
use Rattle.std.proofs.Common.{◌≡◌, ℕ, zero, suc, ◌↔◌, List, [], ◌∷◌, Bool, true, false, All, IsTrue, refl, arith}
use Rattle.std.proofs.lemmas.Bool.{false≢true, true≢false}
use Rattle.std.specs.List.{list_all}
use Rattle.waf_laws.proofs.Truths.{both_decided}
use Rattle.waf_model.specs.LabelAgreement.{Agree, labels_agree, pair_label_tests, same_truth, test_holds}
use Rattle.waf_model.specs.declared.bundle.Bundle.{Bundle}

same_decided : (a b : Bool) → IsTrue (same_truth a b) ↔ (a ≡ b)
same_decided true true = (λ h. refl, λ h. refl)
same_decided true false = (λ h. absurd (false≢true h), λ h. absurd (true≢false h))
same_decided false true = (λ h. absurd (false≢true h), λ h. absurd (false≢true h))
same_decided false false = (λ h. refl, λ h. refl)

all_more : {X : Type 0} (P : X → Type 0) (x : X) (xs : List X) → P x → All P xs → All P (x ∷ xs)
all_more P x xs here later zero d within = here
all_more P x xs here later (suc k) d within = later k d (omega arith)

pub all_decided : {X : Type 0} (p : X → Bool) (P : X → Type 0) → ((x : X) → IsTrue (p x) ↔ P x) → (xs : List X) → IsTrue (list_all p xs) ↔ All P xs
all_decided p P each [] = (λ h k d within. absurd (omega arith), λ h. refl)
all_decided p P each (x ∷ xs) =
    let joined = both_decided (p x) (list_all p xs) (P x) (All P xs) (each x) (all_decided p P each xs) in (
      λ h. let (here, later) = joined.0 h in all_more P x xs here later,
      λ h. joined.1 (h 0 x (omega arith), λ k d within. h (suc k) d (omega arith)),
    )

pub agree_decided : (old new : Bundle) (a b : List ℕ) → IsTrue (labels_agree old new a b) ↔ Agree old new a b
agree_decided old new a b =
    all_decided (λ test. same_truth (test_holds test a) (test_holds test b)) (λ test. test_holds test a ≡ test_holds test b)
    (λ test. same_decided (test_holds test a) (test_holds test b)) (pair_label_tests old new)
