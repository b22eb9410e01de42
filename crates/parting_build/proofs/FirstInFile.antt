-- Of rules for which there are paths, one is first in the file just where there is one.
use Rattle.std.proofs.Common.{◌≡◌, ℕ, zero, suc, ◌+◌, ◌<◌, List, [], ◌∷◌, length, get_or, drop, drop-cons, add-one, Bool, true, false, Option, Some, None, if◌then◌else◌, nat_lt, option_map, slice_get, refl, sym, ap, ◌∙◌}
use Rattle.std.specs.List.{fold}
use Rattle.waf_model.specs.declared.rule.TopRule.{TopRule}
use Rattle.parting_build.specs.FirstInFile.{earlier, first_in_file}

-- a list from an index on begins with what stands there
pub front : {X : Type 0} (xs : List X) (i : ℕ) (x : X) → i < length xs → x ≡ get_or xs i x → drop i xs ≡ x ∷ drop (i + 1) xs
front {X} xs i x below is = rw add-one (drop-cons xs i x below ∙ ap (λ (y : X). y ∷ drop (suc i) xs) (sym is))

-- what is found after these rules, where this was found before
abbrev found_after : (TopRule → Option (List ℕ)) → Option (ℕ × List ℕ) → List TopRule → Option (ℕ × List ℕ)
found_after path_of found rules = fold (λ first rule. earlier first rule.place (path_of rule)) found rules

-- one or the other is something
chosen_some : (test : Bool) (one other : ℕ × List ℕ) → (next : ℕ × List ℕ) × ((if test then Some one else Some other) ≡ Some next)
chosen_some true one other = (one, refl)
chosen_some false one other = (other, refl)

earlier_some : (found : ℕ × List ℕ) (place : ℕ) (path : Option (List ℕ)) → (next : ℕ × List ℕ) × (earlier (Some found) place path ≡ Some next)
earlier_some found place None = (found, refl)
earlier_some found place (Some path) = chosen_some (nat_lt place found.0) (place, path) found

-- what was found is not lost
kept : (path_of : TopRule → Option (List ℕ)) (found : ℕ × List ℕ) (rules : List TopRule) → found_after path_of (Some found) rules ≡ None → ⊥
kept path_of found [] is = cc
kept path_of found (rule ∷ rules) is =
    let next = earlier_some found rule.place (path_of rule) in
    kept path_of next.0 rules (rw next.1 at is)

-- the first rule has no path, and nothing is found in the rest
first_and_rest : (path_of : TopRule → Option (List ℕ)) (path : Option (List ℕ)) (place : ℕ) (rules : List TopRule) → found_after path_of (earlier None place path) rules ≡ None
    → (path ≡ None) × (found_after path_of None rules ≡ None)
first_and_rest path_of None place rules is = (refl, is)
first_and_rest path_of (Some path) place rules is = absurd (kept path_of (place, path) rules is)

none_found_at : (path_of : TopRule → Option (List ℕ)) (rules : List TopRule) (i : ℕ) (rule : TopRule) → found_after path_of None rules ≡ None → slice_get rules i ≡ Some rule → path_of rule ≡ None
none_found_at path_of [] i rule is stands = cc
none_found_at path_of (r ∷ rules) zero rule is stands =
    let none = first_and_rest path_of (path_of r) r.place rules is in
    let same : r ≡ rule = cc in
    rw same at none.0
none_found_at path_of (r ∷ rules) (suc i) rule is stands =
    none_found_at path_of rules i rule (first_and_rest path_of (path_of r) r.place rules is).1 stands

without_place : (found : Option (ℕ × List ℕ)) → option_map (λ first. first.1) found ≡ None → found ≡ None
without_place None is = refl
without_place (Some found) is = cc

-- where none is first in the file, no rule has a path
pub none_at : (path_of : TopRule → Option (List ℕ)) (rules : List TopRule) (i : ℕ) (rule : TopRule) → first_in_file path_of rules ≡ None → slice_get rules i ≡ Some rule → path_of rule ≡ None
none_at path_of rules i rule is stands = none_found_at path_of rules i rule (without_place (found_after path_of None rules) is) stands

none_found : (path_of : TopRule → Option (List ℕ)) (rules : List TopRule) → ((i : ℕ) (rule : TopRule) → slice_get rules i ≡ Some rule → path_of rule ≡ None) → found_after path_of None rules ≡ None
none_found path_of [] absent = refl
none_found path_of (r ∷ rules) absent = rw (absent 0 r refl) (none_found path_of rules (λ i rule stands. absent (suc i) rule stands))

-- where no rule has a path, none is first in the file
pub none_first : (path_of : TopRule → Option (List ℕ)) (rules : List TopRule) → ((i : ℕ) (rule : TopRule) → slice_get rules i ≡ Some rule → path_of rule ≡ None) → first_in_file path_of rules ≡ None
none_first path_of rules absent = rw (none_found path_of rules absent)
