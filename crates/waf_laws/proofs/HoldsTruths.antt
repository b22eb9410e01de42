-- A statement holds of a request exactly where its truth value is true.
use Rattle.std.proofs.Common.{ℕ, ◌↔◌, List, Bool, true, false, IsTrue, refl, subst}
use Rattle.std.proofs.lemmas.Bool.{false≢true}
use Rattle.std.specs.List.{list_any}
use Rattle.waf_laws.proofs.AddressTruths.{address_decided}
use Rattle.waf_laws.proofs.TestTruths.{passes_decided}
use Rattle.waf_laws.proofs.Truths.{both_decided, either_decided, opposite_decided, some_decided}
use Rattle.waf_model.specs.Holds.{Condition, never, always, tested, addressed, labelled, answered, both, either, opposite, condition, oversize_of, SomePasses, OversizedHolds, FieldHolds, IsMet, Holds}
use Rattle.waf_model.specs.HoldsTruth.{some_passes, oversized_holds, field_holds, is_met, statement_holds}
use Rattle.waf_model.specs.LabelMatch.{IsAmong, label_holds}
use Rattle.waf_model.specs.Passes.{Passes}
use Rattle.waf_model.specs.Shown.{is_oversized, shown}
use Rattle.waf_model.specs.TestTruth.{passes}
use Rattle.waf_model.specs.Transformed.{transform_all}
use Rattle.waf_model.specs.declared.answers.Answers.{Answers}
use Rattle.waf_model.specs.declared.bundle.Bundle.{Bundle}
use Rattle.waf_model.specs.declared.field.Oversize.{Oversize}
use Rattle.waf_model.specs.declared.field.Oversize.TheVariants as oversizes
use Rattle.waf_model.specs.declared.matching.LabelScope.{LabelScope}
use Rattle.waf_model.specs.declared.request.Request.{Request}
use Rattle.waf_model.specs.declared.statement.Statement.{Statement}

oversized_decided : (oversize : Oversize) (a : Bool) (P : Type 0) → IsTrue a ↔ P → IsTrue (oversized_holds oversize a) ↔ OversizedHolds oversize P
oversized_decided oversizes.Continue a P p = p
oversized_decided oversizes.Match a P p = (λ h. tt, λ h. refl)
oversized_decided oversizes.NoMatch a P p = (λ h. absurd (false≢true h), λ h. absurd h)

field_decided : (over : Bool) (oversize : Oversize) (a : Bool) (P : Type 0) → IsTrue a ↔ P → IsTrue (field_holds over oversize a) ↔ FieldHolds over oversize P
field_decided true oversize a P p = oversized_decided oversize a P p
field_decided false oversize a P p = p

-- a label match holds of one of the labels
labelled_decided : (scope : LabelScope) (key namespace : List ℕ) (labels : List (List ℕ))
    → IsTrue (list_any (label_holds scope key namespace) labels) ↔ ((label : List ℕ) × IsAmong labels label × IsTrue (label_holds scope key namespace label))
labelled_decided scope key namespace labels =
    let some = some_decided (label_holds scope key namespace) (λ label. IsTrue (label_holds scope key namespace label)) (λ label. (λ h. h, λ h. h)) labels in (
      λ h. let (k, label, within, is, holds) = some.0 h in (label, (k, label, within, is, refl), holds),
      λ (label, (k, one, within, is, same), holds). some.1 (k, one, within, is, subst (λ (l : List ℕ). IsTrue (label_holds scope key namespace l)) same holds),
    )

pub met_decided : (request : Request) (answers : Answers) (labels : List (List ℕ)) (namespace : List ℕ) (limit : ℕ) (c : Condition)
    → IsTrue (is_met request answers labels namespace limit c) ↔ IsMet request answers (IsAmong labels) namespace limit c
met_decided request answers labels namespace limit never = (λ h. absurd (false≢true h), λ h. absurd h)
met_decided request answers labels namespace limit always = (λ h. tt, λ h. refl)
met_decided request answers labels namespace limit (tested test field transforms) =
    field_decided (is_oversized field request limit) (oversize_of field) (some_passes test field transforms request limit) (SomePasses test field transforms request limit)
    (some_decided (λ text. passes test (transform_all transforms text)) (λ text. Passes test (transform_all transforms text))
    (λ text. passes_decided test (transform_all transforms text)) (shown field request limit))
met_decided request answers labels namespace limit (addressed ranges forwarded) = address_decided ranges forwarded request
met_decided request answers labels namespace limit (labelled scope key) = labelled_decided scope key namespace labels
met_decided request answers labels namespace limit (answered key) = (λ h. h, λ h. h)
met_decided request answers labels namespace limit (both a b) =
    both_decided (is_met request answers labels namespace limit a) (is_met request answers labels namespace limit b)
    (IsMet request answers (IsAmong labels) namespace limit a) (IsMet request answers (IsAmong labels) namespace limit b)
    (met_decided request answers labels namespace limit a) (met_decided request answers labels namespace limit b)
met_decided request answers labels namespace limit (either a b) =
    either_decided (is_met request answers labels namespace limit a) (is_met request answers labels namespace limit b)
    (IsMet request answers (IsAmong labels) namespace limit a) (IsMet request answers (IsAmong labels) namespace limit b)
    (met_decided request answers labels namespace limit a) (met_decided request answers labels namespace limit b)
met_decided request answers labels namespace limit (opposite a) =
    opposite_decided (is_met request answers labels namespace limit a) (IsMet request answers (IsAmong labels) namespace limit a) (met_decided request answers labels namespace limit a)

pub holds_decided : (bundle : Bundle) (statement : Statement) (request : Request) (answers : Answers) (labels : List (List ℕ)) (namespace : List ℕ) (limit : ℕ)
    → IsTrue (statement_holds bundle statement request answers labels namespace limit) ↔ Holds bundle statement request answers (IsAmong labels) namespace limit
holds_decided bundle statement request answers labels namespace limit = met_decided request answers labels namespace limit (condition bundle statement)
