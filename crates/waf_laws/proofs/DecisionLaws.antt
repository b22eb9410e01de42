-- Decisions stand in one order.
use Rattle.std.proofs.Common.{◌≡◌, ◌≢◌, ℕ, ◌<◌, ◌⊎◌, false, nat_lt, IsTrue, inl, inr, refl, ap, arith}
use Rattle.std.proofs.lemmas.Bool.{false≢true}
use Rattle.std.proofs.lemmas.Bool.Decides.{nat_tests}
use Rattle.waf_laws.proofs.Truths.{known, less_decided}
use Rattle.waf_model.specs.DecisionOrder.{decision_before}
use Rattle.waf_model.specs.declared.action.Decision.{Decision}
use Rattle.waf_model.specs.declared.action.Decision.TheVariants.{Allow, Block, Captcha, Challenge}

-- no decision stands before itself
pub not_before_itself : (d : Decision) → decision_before d d ≡ false
not_before_itself Allow = refl
not_before_itself (Block code) = grind (arith, nat_tests)
not_before_itself Captcha = refl
not_before_itself Challenge = refl

nothing_before_allow : (d : Decision) → IsTrue (decision_before d Allow) → ⊥
nothing_before_allow Allow h = false≢true h
nothing_before_allow (Block code) h = false≢true h
nothing_before_allow Captcha h = false≢true h
nothing_before_allow Challenge h = false≢true h

codes_ascend : (a b c : ℕ) → IsTrue (nat_lt a b) → IsTrue (nat_lt b c) → IsTrue (nat_lt a c)
codes_ascend a b c first second =
    let one : a < b = (less_decided a b).0 first in
    let other : b < c = (less_decided b c).0 second in
    (less_decided a c).1 (omega arith)

-- what stands before a decision that stands before another stands before that one
pub before_both : (d e f : Decision) → IsTrue (decision_before d e) → IsTrue (decision_before e f) → IsTrue (decision_before d f)
before_both Allow e Allow first second = absurd (nothing_before_allow e second)
before_both Allow e (Block c) first second = refl
before_both Allow e Captcha first second = refl
before_both Allow e Challenge first second = refl
before_both (Block a) Allow f first second = absurd (false≢true first)
before_both (Block a) (Block b) Allow first second = absurd (false≢true second)
before_both (Block a) (Block b) (Block c) first second = codes_ascend a b c first second
before_both (Block a) (Block b) Captcha first second = refl
before_both (Block a) (Block b) Challenge first second = refl
before_both (Block a) Captcha Allow first second = absurd (false≢true second)
before_both (Block a) Captcha (Block c) first second = absurd (false≢true second)
before_both (Block a) Captcha Captcha first second = absurd (false≢true second)
before_both (Block a) Captcha Challenge first second = refl
before_both (Block a) Challenge f first second = absurd (false≢true second)
before_both Captcha Allow f first second = absurd (false≢true first)
before_both Captcha (Block b) f first second = absurd (false≢true first)
before_both Captcha Captcha f first second = absurd (false≢true first)
before_both Captcha Challenge f first second = absurd (false≢true second)
before_both Challenge e f first second = absurd (false≢true first)

codes_differ : (a b : ℕ) → Block a ≢ Block b → IsTrue (nat_lt a b) ⊎ IsTrue (nat_lt b a)
codes_differ a b differ = elim (known (nat_lt a b) (a < b) (less_decided a b)) [
  | inl less ↦ inl ((less_decided a b).1 less)
  | inr more ↦ elim (known (nat_lt b a) (b < a) (less_decided b a)) [
    | inl less ↦ inr ((less_decided b a).1 less)
    | inr same ↦ absurd (differ (ap (λ (code : ℕ). Block code) (grind (arith, more, same))))
  ]
]

-- of two decisions one stands before the other
pub one_before : (d e : Decision) → d ≢ e → IsTrue (decision_before d e) ⊎ IsTrue (decision_before e d)
one_before Allow Allow differ = absurd (differ refl)
one_before Allow (Block b) differ = inl refl
one_before Allow Captcha differ = inl refl
one_before Allow Challenge differ = inl refl
one_before (Block a) Allow differ = inr refl
one_before (Block a) (Block b) differ = codes_differ a b differ
one_before (Block a) Captcha differ = inl refl
one_before (Block a) Challenge differ = inl refl
one_before Captcha Allow differ = inr refl
one_before Captcha (Block b) differ = inr refl
one_before Captcha Captcha differ = absurd (differ refl)
one_before Captcha Challenge differ = inl refl
one_before Challenge Allow differ = inr refl
one_before Challenge (Block b) differ = inr refl
one_before Challenge Captcha differ = inr refl
one_before Challenge Challenge differ = absurd (differ refl)
