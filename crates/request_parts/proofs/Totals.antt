-- Sizes that are added up to a limit.
use Rattle.std.proofs.Common.{◌≡◌, ℕ, ◌+◌, ◌-◌, ◌<◌, ◌≤◌, List, drop, length, get_or, true, sym, ap, ◌∙◌, arith, ltb, lt-ltb}
use Rattle.std.proofs.lemmas.List.Sums.{sum_by_from, sum_by-drop_more}
use Rattle.std.specs.List.{fold, sum_by}

-- with the next size the total is past the limit
pub past : {X : Type 0} (f : X → ℕ) (xs : List X) (i : ℕ) (x : X) (total limit : ℕ) → i < length xs → x ≡ get_or xs i x → fold (λ t y. t + f y) total (drop i xs) ≡ sum_by f xs
    → limit - total < f x → total ≤ limit → true ≡ ltb limit (sum_by f xs)
past f xs i x total limit within is so_far large below =
    let sum : sum_by f xs ≡ total + sum_by f (drop i xs) = sym so_far ∙ sum_by_from f total (drop i xs) in
    let rest : sum_by f (drop i xs) ≡ f (get_or xs i x) + sum_by f (drop (i + 1) xs) = sum_by-drop_more f xs i x within in
    let size : f x ≡ f (get_or xs i x) = ap f is in
    sym (lt-ltb limit (sum_by f xs) (omega arith))
