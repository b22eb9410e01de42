-- Facts on lists of different things.
use Rattle.std.proofs.Common.{◌≡◌, ℕ, ◌<◌, ◌≤◌, List, [], ◌∷◌, length, get_or, sym, ◌∙◌, inl, inr, arith, Contains, eqb}
use Rattle.std.specs.List.{All}
use Rattle.std.proofs.lemmas.Bool.{cases_lt, ne_eqb, eqb-true}
use Rattle.std.proofs.lemmas.List.{get_or_default}
use Rattle.std.proofs.lemmas.List.Elements.{All-contains}
use Rattle.std.proofs.lemmas.Map.Keys.{IsDistinct-from_apart}
use Rattle.std.proofs.lemmas.Map.Steps.{length-le_from_distinct_below}
use Rattle.std.proofs.lemmas.Map.Views.{Contains-from_any}
use Rattle.waf_base.specs.Members.{AtLeast, AtMost}
use Rattle.byte_automata.specs.Members.{AreDifferent}

pub different-none : {A : Type 0} → AreDifferent {A = A} []
different-none = λ i j d l k e. omega (arith, k)

pub different-one : {A : Type 0} (x : A) → AreDifferent (x ∷ [])
different-one x = λ i j d l k e. omega (arith, l, k)

-- equal things stand at one place
pub same_place : {A : Type 0} (xs : List A) (i j : ℕ) (d : A) → AreDifferent xs → i < length xs → j < length xs → get_or xs i d ≡ get_or xs j d → i ≡ j
same_place xs i j d h l k e =
    elim (cases_lt i j) [
      | inl lt ↦ absurd (h i j d lt k e)
      | inr ge ↦ elim (cases_lt j i) [ inl gt ↦ absurd (h j i d gt l (sym e)) | inr le ↦ omega (arith, ge, le) ]
    ]

-- the members of a list are at least so many, and where each thing stands in the list at most so many
pub at_least-listed : {A : Type 0} (Has : A → Type 0) (members : List A) (d : A) (n : ℕ) → AreDifferent members → All Has members → n ≤ length members → AtLeast ◌≡◌ n Has
at_least-listed Has members d n different have enough = record {
  member = λ i. get_or members i d;
  of_kind = λ i l. have i d (omega (arith, l, enough));
  different = λ i j l h e. different i j d l (omega (arith, h, enough)) e;
}

pub at_most-listed : {A : Type 0} (Has : A → Type 0) (members : List A) (d : A) (n : ℕ) → ((thing : A) → Has thing → Contains members thing) → length members ≤ n → AtMost ◌≡◌ n Has
at_most-listed Has members d n found few = record {
  member = λ i. get_or members i d;
  number = λ thing has. (found thing has).0;
  below = λ thing has. omega (arith, (found thing has).1, few);
  same = λ thing has. get_or_default members (found thing has).0 d thing (found thing has).1 ∙ (found thing has).2;
}

-- different numbers below n are at most n
pub numbers_below : (n : ℕ) (xs : List ℕ) → AreDifferent xs → All (λ s. s < n) xs → length xs ≤ n
numbers_below n xs h a =
    length-le_from_distinct_below xs n (IsDistinct-from_apart eqb xs (λ i j d l k. ne_eqb (get_or xs i d) (get_or xs j d) (h i j d l k)))
    (λ q t. All-contains (λ s. s < n) xs q a (Contains-from_any (λ x y e. eqb-true x y e) q xs t))
