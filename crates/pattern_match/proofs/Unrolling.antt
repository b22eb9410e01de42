-- A pattern and its unrolled form match the same.
use Rattle.std.proofs.Common.{◌≡◌, ℕ, zero, suc, ◌+◌, ◌-◌, ◌<◌, ◌≤◌, inl, inr, List, Bool, true, false, Option, Some, None, nat_lt, refl, subst, arith, cond}
use Rattle.std.proofs.lemmas.Bool.{ltb-true, ltb-false}
use Rattle.waf_model.specs.Pattern.{Expression, nothing, empty, one_of, start, end, final, both, either, repeat, Matches, Times}
use Rattle.pattern_match.specs.Shapes.{copies, up_to, repeated, unrolled}
use Rattle.pattern_match.proofs.Rounds.{times_up, times_map, times_add, times_split}

-- a match never goes back
pub forward : (w : List ℕ) (e : Expression) (i j : ℕ) → Matches w e i j → i ≤ j
forward w nothing i j h = absurd h
forward w empty i j h = omega arith
forward w (one_of set) i j (b, at, has, is) = omega arith
forward w start i j (at, is) = omega arith
forward w end i j (at, is) = omega arith
forward w final i j (at, is) = omega arith
forward w (both a b) i j (m, one, more) =
    let to : i ≤ m = forward w a i m one in let on : m ≤ j = forward w b m j more in omega arith
forward w (either a b) i j (inl one) = forward w a i j one
forward w (either a b) i j (inr one) = forward w b i j one
forward w (repeat a least most) i j (n, above, below, all) = times_up (Matches w a) (forward w a) n i j all

copies_to : (w : List ℕ) (a b : Expression) (n i j : ℕ) → Matches w (copies n a b) i j →
    (m : ℕ) × Times (Matches w a) n i m × Matches w b m j
copies_to w a b zero i j h = (i, refl, h)
copies_to w a b (suc n) i j (l, one, more) =
    let (m, front, back) = copies_to w a b n l j more in
    (m, (l, one, front), back)

copies_from : (w : List ℕ) (a b : Expression) (n i m j : ℕ) → Times (Matches w a) n i m → Matches w b m j → Matches w (copies n a b) i j
copies_from w a b zero i m j e back = subst (λ (x : ℕ). Matches w b x j) e back
copies_from w a b (suc n) i m j (l, one, more) back = (l, one, copies_from w a b n l m j more back)

up_to_to : (w : List ℕ) (a : Expression) (n i j : ℕ) → Matches w (up_to n a) i j → (k : ℕ) × (k ≤ n) × Times (Matches w a) k i j
up_to_to w a zero i j h = (0, omega arith, h)
up_to_to w a (suc n) i j (inl h) = (0, omega arith, h)
up_to_to w a (suc n) i j (inr (l, one, more)) =
    let (k, below, all) = up_to_to w a n l j more in
    (suc k, omega arith, (l, one, all))

up_to_from : (w : List ℕ) (a : Expression) (n k i j : ℕ) → k ≤ n → Times (Matches w a) k i j → Matches w (up_to n a) i j
up_to_from w a zero zero i j below h = h
up_to_from w a zero (suc k) i j below h = absurd (omega arith)
up_to_from w a (suc n) zero i j below h = inl h
up_to_from w a (suc n) (suc k) i j below (l, one, more) = inr (l, one, up_to_from w a n k l j (omega arith) more)

repeated_to : (w : List ℕ) (a : Expression) (least : ℕ) (most : Option ℕ) (i j : ℕ) →
    Matches w (repeated a least most) i j → Matches w (repeat a least most) i j
repeated_to w a least None i j h =
    let (m, front, rest) = copies_to w a (repeat a 0 None) least i j h in
    let (n, above, below, back) = rest in
    (least + n, omega arith, tt, times_add (Matches w a) least n i m j front back)
repeated_to w a least (Some most) i j h = by_test (nat_lt most least) refl h
  where
    by_test : (b : Bool) → nat_lt most least ≡ b → Matches w (cond b nothing (copies least a (up_to (most - least) a))) i j →
        Matches w (repeat a least (Some most)) i j
    by_test true is h = absurd h
    by_test false is h =
        let ordered : least ≤ most = ltb-false most least is in
        let (m, front, back) = copies_to w a (up_to (most - least) a) least i j h in
        let (n, few, all) = up_to_to w a (most - least) m j back in
        (least + n, omega arith, omega arith, times_add (Matches w a) least n i m j front all)

repeated_from : (w : List ℕ) (a : Expression) (least : ℕ) (most : Option ℕ) (i j : ℕ) →
    Matches w (repeat a least most) i j → Matches w (repeated a least most) i j
repeated_from w a least None i j (n, above, below, all) =
    let counts : n ≡ least + (n - least) = omega arith in
    let (m, front, back) =
    times_split (Matches w a) least (n - least) i j (subst (λ (x : ℕ). Times (Matches w a) x i j) counts all) in
    copies_from w a (repeat a 0 None) least i m j front (n - least, omega arith, tt, back)
repeated_from w a least (Some most) i j (n, above, below, all) = by_test (nat_lt most least) refl
  where
    by_test : (b : Bool) → nat_lt most least ≡ b → Matches w (cond b nothing (copies least a (up_to (most - least) a))) i j
    by_test true is = let under : most < least = ltb-true most least is in absurd (omega arith)
    by_test false is =
        let counts : n ≡ least + (n - least) = omega arith in
        let (m, front, back) =
        times_split (Matches w a) least (n - least) i j (subst (λ (x : ℕ). Times (Matches w a) x i j) counts all) in
        copies_from w a (up_to (most - least) a) least i m j front
        (up_to_from w a (most - least) (n - least) m j (omega arith) back)

repeat_map : (w : List ℕ) (a b : Expression) (least : ℕ) (most : Option ℕ) → ((i j : ℕ) → Matches w a i j → Matches w b i j) →
    (i j : ℕ) → Matches w (repeat a least most) i j → Matches w (repeat b least most) i j
repeat_map w a b least most f i j (n, above, below, all) =
    (n, above, below, times_map (Matches w a) (Matches w b) f n i j all)

pub to_unrolled : (w : List ℕ) (e : Expression) (i j : ℕ) → Matches w e i j → Matches w (unrolled e) i j
to_unrolled w nothing i j h = h
to_unrolled w empty i j h = h
to_unrolled w (one_of set) i j h = h
to_unrolled w start i j h = h
to_unrolled w end i j h = h
to_unrolled w final i j h = h
to_unrolled w (both a b) i j (m, one, more) = (m, to_unrolled w a i m one, to_unrolled w b m j more)
to_unrolled w (either a b) i j (inl one) = inl (to_unrolled w a i j one)
to_unrolled w (either a b) i j (inr one) = inr (to_unrolled w b i j one)
to_unrolled w (repeat a least most) i j h =
    repeated_from w (unrolled a) least most i j (repeat_map w a (unrolled a) least most (to_unrolled w a) i j h)

pub from_unrolled : (w : List ℕ) (e : Expression) (i j : ℕ) → Matches w (unrolled e) i j → Matches w e i j
from_unrolled w nothing i j h = h
from_unrolled w empty i j h = h
from_unrolled w (one_of set) i j h = h
from_unrolled w start i j h = h
from_unrolled w end i j h = h
from_unrolled w final i j h = h
from_unrolled w (both a b) i j (m, one, more) = (m, from_unrolled w a i m one, from_unrolled w b m j more)
from_unrolled w (either a b) i j (inl one) = inl (from_unrolled w a i j one)
from_unrolled w (either a b) i j (inr one) = inr (from_unrolled w b i j one)
from_unrolled w (repeat a least most) i j h =
    repeat_map w (unrolled a) a least most (from_unrolled w a) i j (repeated_to w (unrolled a) least most i j h)
