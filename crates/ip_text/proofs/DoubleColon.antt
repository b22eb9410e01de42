-- The first `::` of a text, where what stands before it is groups.
use Rattle.std.proofs.Common.{◌≡◌, ℕ, Bool, true, false, cond, List, [], ◌∷◌, ◌++◌, Option, Some, None, option_map, refl, sym, ap, ◌∙◌, subst, arith, inl, inr, append_assoc, eqb, true≢false}
use Rattle.std.proofs.lemmas.Option.{none-some}
use Rattle.std.proofs.lemmas.Bool.{eqb-true}
use Rattle.std.specs.Net.Grammar.{IsGroup, IsGroupsAfter, IsGroups}
use Rattle.std.specs.Prelude.{◌&&◌}
use Rattle.waf_model.specs.AddressText.{around_double_colon, with_byte}
use Rattle.ip_text.proofs.Groups.{has, or_false, and_true, digits_without}

-- what stands on both sides of a place
abbrev Sides : Type 0
Sides = List ℕ × List ℕ

chosen_none : (test : Bool) (parts : Sides) (a : ℕ) (o : Option Sides) → cond test (Some parts) (option_map (with_byte a) o) ≡ None → (test ≡ false) × (o ≡ None)
chosen_none true parts a o e = absurd (none-some parts (sym e))
chosen_none false parts a None e = (refl, refl)
chosen_none false parts a (Some p) e = absurd (none-some (with_byte a p) (sym e))

-- a first `::` after a text that has none and makes none with a colon
pub around_found : (front back : List ℕ) → around_double_colon (front ++ 58 ∷ []) ≡ None → around_double_colon (front ++ 58 ∷ 58 ∷ back) ≡ Some (front, back)
unfolding around_double_colon
around_found [] back none = refl
around_found (a ∷ []) back none =
    let (test, _) = chosen_none (eqb a 58 && true) ([], []) a None none in
    rw test refl
around_found (a ∷ b ∷ front) back none =
    let (test, rest) = chosen_none (eqb a 58 && eqb b 58) ([], front ++ 58 ∷ []) a (around_double_colon (b ∷ (front ++ 58 ∷ []))) none in
    rw (test, around_found (b ∷ front) back rest) refl

pub around_front : (text : List ℕ) → around_double_colon (text ++ 58 ∷ []) ≡ None → around_double_colon text ≡ None
unfolding around_double_colon
around_front [] none = refl
around_front (a ∷ []) none = refl
around_front (a ∷ b ∷ text) none =
    let (test, rest) = chosen_none (eqb a 58 && eqb b 58) ([], text ++ 58 ∷ []) a (around_double_colon (b ∷ (text ++ 58 ∷ []))) none in
    rw (test, around_front (b ∷ text) rest) refl

some_sides : (p q : Sides) → Some p ≡ Some q → p ≡ q
some_sides p q e = cc

at_first : (a b : ℕ) (text : List ℕ) (test : Bool) (o : Option Sides) (parts : Sides) → (eqb a 58 && eqb b 58) ≡ test
    → ((p : Sides) → o ≡ Some p → b ∷ text ≡ p.0 ++ 58 ∷ 58 ∷ p.1)
    → cond test (Some ([], text)) (option_map (with_byte a) o) ≡ Some parts → a ∷ b ∷ text ≡ parts.0 ++ 58 ∷ 58 ∷ parts.1
at_first a b text true o parts is later e =
    let (first, second) = and_true (eqb a 58) (eqb b 58) is in
    let colon : a ≡ 58 = eqb-true a 58 first in
    let next : b ≡ 58 = eqb-true b 58 second in
    subst (λ (p : Sides). a ∷ b ∷ text ≡ p.0 ++ 58 ∷ 58 ∷ p.1) (some_sides ([], text) parts e) (rw (colon, next) refl)
at_first a b text false None parts is later e = absurd (none-some parts e)
at_first a b text false (Some p) parts is later e =
    subst (λ (q : Sides). a ∷ b ∷ text ≡ q.0 ++ 58 ∷ 58 ∷ q.1) (some_sides (with_byte a p) parts e) (ap (λ t. a ∷ t) (later p refl))

pub around_is : (text : List ℕ) (parts : Sides) → around_double_colon text ≡ Some parts → text ≡ parts.0 ++ 58 ∷ 58 ∷ parts.1
unfolding around_double_colon
around_is [] parts e = absurd (none-some parts e)
around_is (a ∷ []) parts e = absurd (none-some parts e)
around_is (a ∷ b ∷ text) parts e =
    at_first a b text (eqb a 58 && eqb b 58) (around_double_colon (b ∷ text)) parts refl (λ p. around_is (b ∷ text) p) e

-- a byte that is no colon in front
passed : (a : ℕ) (text : List ℕ) → eqb a 58 ≡ false → around_double_colon text ≡ None → around_double_colon (a ∷ text) ≡ None
unfolding around_double_colon
passed a [] other none = refl
passed a (b ∷ text) other none = rw (other, none) refl

group_passed : (group text : List ℕ) → has 58 group ≡ false → around_double_colon text ≡ None → around_double_colon (group ++ text) ≡ None
group_passed [] text h none = none
group_passed (a ∷ group) text h none =
    let (first, rest) = or_false (eqb a 58) (has 58 group) h in
    passed a (group ++ text) first (group_passed group text rest none)

-- a colon and a group in front
colon_passed : (group text : List ℕ) (s : ℕ) → IsGroup group s → around_double_colon text ≡ None → around_double_colon (58 ∷ (group ++ text)) ≡ None
unfolding around_double_colon
colon_passed [] text s h none = absurd (omega (arith, h.0.0.0))
colon_passed (a ∷ group) text s h none =
    let no_colon = digits_without 58 (omega arith) (a ∷ group) h.0.0.1 in
    let (first, _) = or_false (eqb a 58) (has 58 group) no_colon in
    rw (first, group_passed (a ∷ group) text no_colon none) refl

none_after : (groups text : List ℕ) → IsGroupsAfter false (58 ∷ []) text groups → around_double_colon (text ++ 58 ∷ []) ≡ None
none_after [] text h = rw h (unfold around_double_colon in refl)
none_after (s ∷ groups) text (inl h) =
    let (group, rest, shown, is_group, more) = h in
    let whole : text ++ 58 ∷ [] ≡ 58 ∷ (group ++ (rest ++ 58 ∷ [])) = ap (λ t. t ++ 58 ∷ []) shown ∙ ap (λ t. 58 ∷ t) (append_assoc group rest (58 ∷ [])) in
    rw whole (colon_passed group (rest ++ 58 ∷ []) s is_group (none_after groups rest more))
none_after (s ∷ groups) text (inr h) = absurd (true≢false (sym h.2))

-- groups have no `::`, and make none with a colon
pub groups_have_none : (groups text : List ℕ) → IsGroups false text groups → around_double_colon (text ++ 58 ∷ []) ≡ None
groups_have_none [] text h = rw h (unfold around_double_colon in refl)
groups_have_none (s ∷ groups) text (inl h) =
    let (group, rest, shown, is_group, more) = h in
    let whole : text ++ 58 ∷ [] ≡ group ++ (rest ++ 58 ∷ []) = ap (λ t. t ++ 58 ∷ []) shown ∙ append_assoc group rest (58 ∷ []) in
    let no_colon = digits_without 58 (omega arith) group is_group.0.0.1 in
    rw whole (group_passed group (rest ++ 58 ∷ []) no_colon (none_after groups rest more))
groups_have_none (s ∷ groups) text (inr h) = absurd (true≢false (sym h.2))
