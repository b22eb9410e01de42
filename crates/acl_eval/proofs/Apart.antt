-- The rules of a web ACL have different places.
use Rattle.std.proofs.Common.{◌≡◌, ◌≢◌, ℕ, suc, ◌+◌, ◌<◌, List, [], ◌∷◌, length, get_or, get_or-take, length-take-le, take, map, false, eqb, IsPermutation, refl, sym, ap, ◌∙◌, arith}
use Rattle.std.specs.List.{range_with_len, IsDistinct}
use Rattle.std.proofs.lemmas.Bool.Decides.{nat_tests}
use Rattle.std.proofs.lemmas.Cmp.{nat_eq_equiv}
use Rattle.std.proofs.lemmas.List.{get_or-map, length-map}
use Rattle.std.proofs.lemmas.List.FromFn.{length-range_with_len, get_or-range_with_len}
use Rattle.std.proofs.lemmas.Map.Keys.{IsDistinct-from_apart, IsDistinct-IsPermutation, apart_from_distinct}
use Rattle.acl_eval.proofs.Places.{AreOthers}
use Rattle.waf_model.specs.declared.bundle.Bundle.{Bundle}
use Rattle.waf_model.specs.declared.rule.TopRule.{TopRule}
use Rattle.waf_model.specs.WholeBundle.{IsWhole}

different : (i j : ℕ) → i < j → eqb (0 + i) (0 + j) ≡ false
different i j less = grind (arith, nat_tests)

differ : (a b : ℕ) → eqb a b ≡ false → a ≢ b
differ a b is same = grind (arith, nat_tests)

flips : (a b : ℕ) → eqb a b ≡ eqb b a
flips a b = nat_eq_equiv.symm a b

range_distinct : (n : ℕ) → IsDistinct eqb (range_with_len 0 n)
range_distinct n = IsDistinct-from_apart eqb (range_with_len 0 n) (λ i j d less within.
    let short : j < n = omega (arith, length-range_with_len 0 n) in
    let at_i : get_or (range_with_len 0 n) i d ≡ 0 + i = get_or-range_with_len 0 n i d (omega arith) in
    let at_j : get_or (range_with_len 0 n) j d ≡ 0 + j = get_or-range_with_len 0 n j d short in
    rw (at_i, at_j) (different i j less))

-- the place of a rule, as the order of the rules has it
abbrev place_of : TopRule → ℕ
place_of top = top.place

places_distinct : (places : List ℕ) → IsPermutation (range_with_len 0 (length places)) places → IsDistinct eqb places
places_distinct places is = IsDistinct-IsPermutation eqb flips (range_with_len 0 (length places)) places is (range_distinct (length places))

others_from : (place : ℕ) (rules : List TopRule) → ((j : ℕ) (top : TopRule) → j < length rules → get_or rules j top ≡ top → top.place ≢ place) → AreOthers place rules
others_from place [] all = tt
others_from place (top ∷ rules) all = (all 0 top (omega arith) refl, others_from place rules (λ j other below is. all (suc j) other (omega arith) is))

-- each rule before this one has another place
pub before_differ : (bundle : Bundle) (i : ℕ) (top : TopRule) → IsWhole bundle → i < length bundle.acl.rules → top ≡ get_or bundle.acl.rules i top
    → AreOthers top.place (take i bundle.acl.rules)
before_differ bundle i top whole below is = others_from top.place (take i rules) (λ j other within stands.
    let short : j < i = omega (arith, length-take-le i rules (omega arith)) in
    let there : get_or rules j other ≡ other = sym (get_or-take i rules j other short) ∙ stands in
    let apart : eqb (get_or (map place_of rules) j 0) (get_or (map place_of rules) i 0) ≡ false =
    apart_from_distinct eqb (map place_of rules) j i 0 (places_distinct (map place_of rules) whole.acl.order.each_place) short (omega (arith, long)) in
    let at_j : get_or (map place_of rules) j 0 ≡ other.place = get_or-map place_of rules j other 0 (omega arith) ∙ ap place_of there in
    let at_i : get_or (map place_of rules) i 0 ≡ top.place = get_or-map place_of rules i top 0 below ∙ ap place_of (sym is) in
    differ other.place top.place (rw (at_j, at_i) at apart))
  where
    rules : List TopRule
    rules = bundle.acl.rules

    long : length (map place_of rules) ≡ length rules
    long = length-map rules place_of
