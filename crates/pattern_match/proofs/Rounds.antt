-- Matches that follow one another.
use Rattle.std.proofs.Common.{◌≡◌, ℕ, zero, suc, ◌+◌, ◌<◌, ◌≤◌, inl, inr, refl, sym, subst, arith, zero-add}
use Rattle.std.proofs.lemmas.Bool.{cases_lt}
use Rattle.waf_model.specs.Pattern.{Times}

-- they never go back
pub times_up : (R : ℕ → ℕ → Type 0) → ((i j : ℕ) → R i j → i ≤ j) → (n i j : ℕ) → Times R n i j → i ≤ j
times_up R up zero i j h = omega arith
times_up R up (suc n) i j (m, one, more) =
    let to : i ≤ m = up i m one in let on : m ≤ j = times_up R up n m j more in omega arith

pub times_map : (R S : ℕ → ℕ → Type 0) → ((i j : ℕ) → R i j → S i j) → (n i j : ℕ) → Times R n i j → Times S n i j
times_map R S f zero i j h = h
times_map R S f (suc n) i j (m, one, more) = (m, f i m one, times_map R S f n m j more)

pub times_add : (R : ℕ → ℕ → Type 0) (n k i m j : ℕ) → Times R n i m → Times R k m j → Times R (n + k) i j
times_add R zero k i m j e more =
    subst (λ (x : ℕ). Times R x i j) (sym (zero-add k)) (subst (λ (x : ℕ). Times R k x j) e more)
times_add R (suc n) k i m j (l, one, rest) more =
    let counts : suc (n + k) ≡ suc n + k = omega arith in
    subst (λ (x : ℕ). Times R x i j) counts (l, one, times_add R n k l m j rest more)

pub times_split : (R : ℕ → ℕ → Type 0) (n k i j : ℕ) → Times R (n + k) i j → (m : ℕ) × Times R n i m × Times R k m j
times_split R zero k i j all = (i, refl, subst (λ (x : ℕ). Times R x i j) (zero-add k) all)
times_split R (suc n) k i j all =
    let counts : suc n + k ≡ suc (n + k) = omega arith in
    let whole : Times R (suc (n + k)) i j = subst (λ (x : ℕ). Times R x i j) counts all in
    let (l, one, more) = whole in
    let (m, front, back) = times_split R n k l j more in
    (m, (l, one, front), back)

-- of matches that lead further, some last one leads further
pub times_last : (R : ℕ → ℕ → Type 0) → ((i j : ℕ) → R i j → i ≤ j) → (n i j : ℕ) → i < j → Times R n i j →
    (u : ℕ) × (u < j) × ((k : ℕ) × Times R k i u) × R u j
times_last R up zero i j further e = absurd (omega arith)
times_last R up (suc n) i j further (m, one, more) =
    let within : m ≤ j = times_up R up n m j more in
    elim (cases_lt m j) [
      | inl below ↦
          let (u, under, earlier, step) = times_last R up n m j below more in
          let (k, front) = earlier in
          (u, under, (suc k, (m, one, front)), step)
      | inr above ↦
          let same : m ≡ j = omega arith in
          (i, further, (0, refl), subst (λ (x : ℕ). R i x) same one)
    ]
