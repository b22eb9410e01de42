-- Among more paths than there are rules, some path is named by none.
use Rattle.std.proofs.Common.{◌≡◌, ℕ, zero, suc, ◌+◌, ◌<◌, ◌≤◌, Bool, true, false, eqb, leb, ◌||◌, ◌&&◌, List, [], ◌∷◌, ◌++◌, length, map, replicate, get_or, refl, sym, ap, ◌∙◌, arith, eq-eqb}
use Rattle.std.specs.List.{list_any, list_all, range_with_len, IsDistinct, Any}
use Rattle.std.specs.Str.{bytes_eq}
use Rattle.std.proofs.Math.Bool.{or-true}
use Rattle.std.proofs.Math.ListN.{length-replicate, length-append}
use Rattle.std.proofs.lemmas.Bool.Decides.{nat_tests}
use Rattle.std.proofs.lemmas.Bool.{false≢true}
use Rattle.std.proofs.lemmas.Cmp.{nat_eq_equiv}
use Rattle.std.proofs.lemmas.Slice.Eq.{bytes_eq-Decides}
use Rattle.std.proofs.lemmas.List.Folds.{list_any-append, Any-from_list_any}
use Rattle.std.proofs.lemmas.List.FromFn.{length-range_with_len, get_or-range_with_len}
use Rattle.std.proofs.lemmas.Map.Keys.{IsDistinct-from_apart}
use Rattle.std.proofs.lemmas.Map.Made.{length-le_from_is_member}
use Rattle.waf_model.specs.Within.{is_path, is_path_byte}
use Rattle.waf_model.specs.declared.rule.TopRule.{TopRule}
use Rattle.parting_build.specs.Named.{names, search_of_rule}

-- `/` and so many letters `a`
abbrev pub path_of : ℕ → List ℕ
path_of n = 47 ∷ replicate n 97

letters_pass : (n : ℕ) → list_all is_path_byte (replicate n 97) ≡ true
letters_pass zero = refl
letters_pass (suc n) = letters_pass n

all_three : (a b c : Bool) → a ≡ true → b ≡ true → c ≡ true → (a && b && c) ≡ true
all_three a b c first second third = rw (first, second, third)

fits : (n : ℕ) → n ≤ 4095 → leb (length (path_of n)) 4096 ≡ true
fits n within = let len : length (path_of n) ≤ 4096 = omega (arith, length-replicate {A = ℕ} n 97) in grind (arith, nat_tests)

-- such a path is within the limits
pub is_path-of : (n : ℕ) → n ≤ 4095 → is_path (path_of n) ≡ true
is_path-of n within = all_three _ _ _ refl (fits n within) (letters_pass n)

-- the lengths of the search strings
abbrev lengths : List TopRule → List ℕ
lengths rs = map (λ rule. length (search_of_rule rule.body)) rs

either_named : (r : TopRule) (rs : List TopRule) (path : List ℕ) (b : Bool) → bytes_eq (search_of_rule r.body) path ≡ b → (b || names rs path) ≡ true
    → (names rs path ≡ true → list_any (eqb (length path)) (lengths rs) ≡ true) → list_any (eqb (length path)) (lengths (r ∷ rs)) ≡ true
either_named r rs path true is named later =
    let same : length path ≡ length (search_of_rule r.body) = ap (λ (xs : List ℕ). length xs) (sym ((bytes_eq-Decides (search_of_rule r.body) path).0 is)) in
    rw (eq-eqb _ _ same)
either_named r rs path false is named later = rw (later named) (or-true (eqb (length path) (length (search_of_rule r.body))))

named_length : (rs : List TopRule) (path : List ℕ) → names rs path ≡ true → list_any (eqb (length path)) (lengths rs) ≡ true
named_length [] path named = absurd (false≢true named)
named_length (r ∷ rs) path named = either_named r rs path (bytes_eq (search_of_rule r.body) path) refl named (named_length rs path)

length-lengths : (rs : List TopRule) → length (lengths rs) ≡ length rs
length-lengths [] = refl
length-lengths (r ∷ rs) = ap suc (length-lengths rs)

different : (i j : ℕ) → i < j → eqb (1 + i) (1 + j) ≡ false
different i j less = grind (arith, nat_tests)

-- as many different paths as are named, there are rules
count : (rs : List TopRule) (n : ℕ) → ((k : ℕ) → k < n → names rs (path_of k) ≡ true) → n ≤ length rs
count rs n named =
    let fewer : length (range_with_len 1 n) ≤ length (lengths rs) = length-le_from_is_member nat_eq_equiv (range_with_len 1 n) (lengths rs) apart members in
    omega (arith, length-range_with_len 1 n, length-lengths rs)
  where
    apart : IsDistinct eqb (range_with_len 1 n)
    apart = IsDistinct-from_apart eqb (range_with_len 1 n) (λ i j d less within.
        let short : j < n = omega (arith, length-range_with_len 1 n) in
        let at_i : get_or (range_with_len 1 n) i d ≡ 1 + i = get_or-range_with_len 1 n i d (omega arith) in
        let at_j : get_or (range_with_len 1 n) j d ≡ 1 + j = get_or-range_with_len 1 n j d short in
        rw (at_i, at_j) (different i j less))

    from_some : (q : ℕ) → Any (λ x. eqb q x ≡ true) (range_with_len 1 n) → list_any (eqb q) (lengths rs) ≡ true
    from_some q (k, x, within, stands, is) =
        let short : k < n = omega (arith, length-range_with_len 1 n) in
        let at_k : get_or (range_with_len 1 n) k x ≡ 1 + k = get_or-range_with_len 1 n k x short in
        let q_is : q ≡ length (path_of k) = grind (arith, nat_tests, length-replicate {A = ℕ} k 97) in
        rw q_is (named_length rs (path_of k) (named k short))

    members : (q : ℕ) → list_any (eqb q) (range_with_len 1 n) ≡ true → list_any (eqb q) (lengths rs) ≡ true
    members q is = from_some q (Any-from_list_any (eqb q) (range_with_len 1 n) is)

-- in 2,001 paths there is one that none of two times 1,000 rules names
pub too_many : (old new : List TopRule) → length old ≤ 1000 → length new ≤ 1000 → ((k : ℕ) → k < 2001 → (names old (path_of k) || names new (path_of k)) ≡ true) → ⊥
too_many old new few_old few_new named =
    let most : 2001 ≤ length (old ++ new) = count (old ++ new) 2001 (λ k less. list_any-append (λ (rule : TopRule). bytes_eq (search_of_rule rule.body) (path_of k)) old new ∙ named k less) in
    omega (arith, length-append old new)
