-- Where the test of a field holds, by whether it is oversized and how that is handled.
use Rattle.std.proofs.Common.{◌≡◌, ◌↔◌, Bool, true, false, Result, IfOk, IsTrue, refl, sym, subst}
use Rattle.waf_model.specs.Holds.{FieldHolds, OversizedHolds}
use Rattle.waf_model.specs.declared.field.Oversize.{Oversize}
use Rattle.waf_model.specs.declared.field.Oversize.TheVariants as oversizes

is_false : (a b : Bool) → IsTrue a ↔ IsTrue b → a ≡ false → b ≡ false
is_false a true same none = absurd (let h = same.1 (refl) in cc)
is_false a false same none = refl

-- what isn't oversized is inspected
pub inspected_whole : {E : Type 0} (result : Result Bool E) (a over : Bool) (oversize : Oversize) (P : Type 0) → IsTrue a ↔ IsTrue over → a ≡ false
    → IfOk result (λ holds. IsTrue holds ↔ P) → IfOk result (λ holds. IsTrue holds ↔ FieldHolds over oversize P)
inspected_whole result a over oversize P same none =
    subst (λ (b : Bool). IfOk result (λ holds. IsTrue holds ↔ FieldHolds b oversize P)) (sym (is_false a over same none))

-- and so is what is oversized, under CONTINUE
pub inspected_so_far : {E : Type 0} (result : Result Bool E) (over : Bool) (oversize : Oversize) (P : Type 0) → over ≡ true → oversize ≡ oversizes.Continue
    → IfOk result (λ holds. IsTrue holds ↔ P) → IfOk result (λ holds. IsTrue holds ↔ FieldHolds over oversize P)
inspected_so_far result over oversize P larger handled held =
    subst (λ (b : Bool). IfOk result (λ holds. IsTrue holds ↔ FieldHolds b oversize P)) (sym larger)
    (subst (λ (o : Oversize). IfOk result (λ holds. IsTrue holds ↔ OversizedHolds o P)) (sym handled) held)
