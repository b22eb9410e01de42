-- The addresses that begin with some bits, as numbers from a first to a last.
use Rattle.std.proofs.Common.{◌≡◌, ℕ, ◌+◌, ◌-◌, ◌*◌, ◌/◌, ◌%◌, ◌^◌, ◌<◌, ◌≤◌, Bool, true, false, refl, sym, ap, subst, arith, leb, le-leb, true≢false}
use Rattle.std.proofs.Math.Nat.{div-eq_of_lt-le, mod-lt, mul-le-mul_right}
use Rattle.std.proofs.lemmas.Bool.{leb-true}
use Rattle.std.proofs.lemmas.Nat.{div-add-mod', div_below, pow-add}
use Rattle.std.specs.Prelude.{◌&&◌, ◌↔◌}
use Rattle.ip_cover.specs.Spans.{is_from_to}

pub and_true : (a b : Bool) → (a && b) ≡ true → (a ≡ true) × (b ≡ true)
and_true true b e = (refl, e)
and_true false b e = absurd (true≢false (sym e))

-- the last of as many numbers as the size stays in the width
room_at : (base p m : ℕ) → 0 < p → base < m * p → base - base % p + (p - 1) < m * p
room_at base p m some below =
    let parts : base / p * p + base % p ≡ base = div-add-mod' base p in
    let least : base / p < m = div_below base p m some below in
    let most : (base / p + 1) * p ≤ m * p = mul-le-mul_right p (omega arith) in
    omega arith

pub room : (bits k base : ℕ) → 0 < 2 ^ k → base < 2 ^ (bits + k) → base - base % 2 ^ k + (2 ^ k - 1) < 2 ^ (bits + k)
room bits k base some below =
    let whole : 2 ^ (bits + k) ≡ 2 ^ bits * 2 ^ k = pow-add 2 bits k in
    let fits = room_at base (2 ^ k) (2 ^ bits) some (subst (λ (w : ℕ). base < w) whole below) in
    subst (λ (w : ℕ). base - base % 2 ^ k + (2 ^ k - 1) < w) (sym whole) fits

-- a number is in the span around a base just where both have the same quotient by the size
pub same_quotient : (size base n : ℕ) → 0 < size → (base / size ≡ n / size) ↔ (is_from_to (base - base % size) (base - base % size + (size - 1)) n ≡ true)
same_quotient size base n some =
    let base_parts : base / size * size + base % size ≡ base = div-add-mod' base size in
    let base_rest : base % size < size = mod-lt base some in
    let parts : n / size * size + n % size ≡ n = div-add-mod' n size in
    let rest : n % size < size = mod-lt n some in
    let first = base - base % size in (
      λ same.
          let product : base / size * size ≡ n / size * size = ap (λ q. q * size) same in
          rw (le-leb first n (omega arith), le-leb n (first + (size - 1)) (omega arith)) refl,
      λ inside.
          let (above, below) = and_true (leb first n) (leb n (first + (size - 1))) inside in
          let least : first ≤ n = leb-true first n above in
          let most : n ≤ first + (size - 1) = leb-true n (first + (size - 1)) below in
          sym (div-eq_of_lt-le {k = base / size} size {m = n} (omega arith) (omega arith)),
    )

pub room_in : (width bits size base : ℕ) → bits ≤ width → size ≡ 2 ^ (width - bits) → 0 < size → base < 2 ^ width → base - base % size + (size - 1) < 2 ^ width
room_in width bits size base fits is some below =
    let whole : bits + (width - bits) ≡ width = omega arith in
    let above = subst (λ (w : ℕ). base < 2 ^ w) (sym whole) below in
    rw is (subst (λ (w : ℕ). base - base % 2 ^ (width - bits) + (2 ^ (width - bits) - 1) < 2 ^ w) whole (room bits (width - bits) base (subst (λ (s : ℕ). 0 < s) is some) above))
