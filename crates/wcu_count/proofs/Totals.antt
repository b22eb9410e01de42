-- A sum of costs that is made one by one: the costs so far with those of the rest are those of all.
use Rattle.std.proofs.Common.{◌≡◌, ℕ, ◌+◌, ◌*◌, ◌^◌, ◌<◌, ◌≤◌, suc, List, ◌∷◌, map, sum, length, get_or, drop, sym, ◌∙◌, ap, subst, drop-cons, add-one, arith}
use Rattle.std.proofs.lemmas.List.Sums.{sum_by-cons}
use Rattle.waf_model.specs.Cost.{plus, sum_of}
use Rattle.waf_model.specs.declared.outcome.Capacity.{Capacity}
use Rattle.wcu_count.specs.Bounds.{IsWithin}

-- the total of what comes before the rest, of so few statements that it leaves room for the rest
pub record Total {X : Type 0} (cost : X → Capacity) (count : X → ℕ) (whole rest : List X) (total : Capacity) : Type 0 where
  pub known : total.known + (sum_of (map cost rest)).known ≡ (sum_of (map cost whole)).known
  pub unknown : total.unknown + (sum_of (map cost rest)).unknown ≡ (sum_of (map cost whole)).unknown
  pub room_known : total.known + 2 ^ 37 * sum (map count rest) ≤ 2 ^ 37 * sum (map count whole)
  pub room_unknown : total.unknown + sum (map count rest) ≤ sum (map count whole)

-- one more
pub total_more : {X : Type 0} (cost : X → Capacity) (count : X → ℕ) (whole rest : List X) (x : X) (total : Capacity) → Total cost count whole (x ∷ rest) total → IsWithin (cost x) (count x) → Total cost count whole rest (plus total (cost x))
total_more cost count whole rest x total so_far within =
    let counts : sum (map count (x ∷ rest)) ≡ count x + sum (map count rest) = sum_by-cons (λ (n : ℕ). n) (count x) (map count rest) in
    record {
      known = omega (arith, so_far.known);
      unknown = omega (arith, so_far.unknown);
      room_known = omega (arith, counts, so_far.room_known, within.known);
      room_unknown = omega (arith, counts, so_far.room_unknown, within.unknown);
    }

-- the total after the next of a list
pub total_next : {X : Type 0} (cost : X → Capacity) (count : X → ℕ) (xs : List X) (i : ℕ) (x : X) (total : Capacity) → i < length xs → x ≡ get_or xs i x → Total cost count xs (drop i xs) total → IsWithin (cost x) (count x) → Total cost count xs (drop (i + 1) xs) (plus total (cost x))
total_next {X} cost count xs i x total below is so_far within =
    let here : drop i xs ≡ x ∷ drop (suc i) xs = drop-cons xs i x below ∙ ap (λ (y : X). y ∷ drop (suc i) xs) (sym is) in
    rw add-one (total_more cost count xs (drop (suc i) xs) x total (subst (λ (rest : List X). Total cost count xs rest total) here so_far) within)
