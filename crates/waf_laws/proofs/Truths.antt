-- Truth values that decide facts: of joins, of lists and of places.
use Rattle.std.proofs.Common.{◌≡◌, ℕ, zero, suc, ◌+◌, ◌-◌, ◌<◌, ◌≤◌, ◌⊎◌, ◌↔◌, List, [], ◌∷◌, Bool, true, false, not, ◌&&◌, ◌||◌, ◌==◌, nat_le, nat_lt, IsTrue, inl, inr, refl, sym, subst, arith}
use Rattle.std.proofs.lemmas.Bool.{false≢true}
use Rattle.std.proofs.lemmas.Bool.Decides.{nat_tests}
use Rattle.std.specs.List.{list_any, range_with_len}
use Rattle.std.specs.Prelude.{Any}
use Rattle.waf_model.specs.PatternTruth.{some_place}

-- ---- joins

pub both_decided : (a b : Bool) (P Q : Type 0) → IsTrue a ↔ P → IsTrue b ↔ Q → IsTrue (a && b) ↔ (P × Q)
both_decided true b P Q p q = (λ h. (p.0 refl, q.0 h), λ (one, other). q.1 other)
both_decided false b P Q p q = (λ h. absurd (false≢true h), λ (one, other). absurd (false≢true (p.1 one)))

pub either_decided : (a b : Bool) (P Q : Type 0) → IsTrue a ↔ P → IsTrue b ↔ Q → IsTrue (a || b) ↔ (P ⊎ Q)
either_decided true b P Q p q = (λ h. inl (p.0 refl), λ h. refl)
either_decided false b P Q p q = (
  λ h. inr (q.0 h),
  λ h. elim h [
    | inl one ↦ absurd (false≢true (p.1 one))
    | inr other ↦ q.1 other
  ],
)

pub opposite_decided : (a : Bool) (P : Type 0) → IsTrue a ↔ P → IsTrue (not a) ↔ (P → ⊥)
opposite_decided true P p = (λ h. absurd (false≢true h), λ none. absurd (none (p.0 refl)))
opposite_decided false P p = (λ h one. false≢true (p.1 one), λ none. refl)

-- a fact that is decided holds or doesn't
pub known : (a : Bool) (P : Type 0) → IsTrue a ↔ P → P ⊎ (P → ⊥)
known true P p = inl (p.0 refl)
known false P p = inr (λ one. false≢true (p.1 one))

-- ---- lists

some_later : {X : Type 0} (P : X → Type 0) (x : X) (xs : List X) → Any P xs → Any P (x ∷ xs)
some_later P x xs some = (suc some.0, some.1, (let within = some.2 in omega arith), some.3, some.4)

some_of : {X : Type 0} (P : X → Type 0) (x : X) (xs : List X) → Any P (x ∷ xs) → P x ⊎ Any P xs
some_of P x xs (zero, y, within, is, holds) = inl (subst P (sym is) holds)
some_of P x xs (suc k, y, within, is, holds) = inr (k, y, omega arith, is, holds)

pub some_decided : {X : Type 0} (p : X → Bool) (P : X → Type 0) → ((x : X) → IsTrue (p x) ↔ P x) → (xs : List X) → IsTrue (list_any p xs) ↔ Any P xs
some_decided p P each [] = (λ h. absurd (false≢true h), λ some. absurd (let within = some.2 in omega arith))
some_decided p P each (x ∷ xs) =
    let joined = either_decided (p x) (list_any p xs) (P x) (Any P xs) (each x) (some_decided p P each xs) in (
      λ h. elim (joined.0 h) [
        | inl one ↦ (0, x, omega arith, refl, one)
        | inr some ↦ some_later P x xs some
      ],
      λ some. joined.1 (some_of P x xs some),
    )

-- ---- numbers

pub same_decided : (a b : ℕ) → IsTrue (a == b) ↔ (a ≡ b)
same_decided a b = (λ h. grind (arith, nat_tests, h), λ h. grind (arith, nat_tests, h))

pub at_most_decided : (a b : ℕ) → IsTrue (nat_le a b) ↔ (a ≤ b)
at_most_decided a b = (λ h. grind (arith, nat_tests, h), λ h. grind (arith, nat_tests, h))

pub less_decided : (a b : ℕ) → IsTrue (nat_lt a b) ↔ (a < b)
less_decided a b = (λ h. grind (arith, nat_tests, h), λ h. grind (arith, nat_tests, h))

-- some number of n from a on
pub numbered : (p : ℕ → Bool) (P : ℕ → Type 0) → ((k : ℕ) → IsTrue (p k) ↔ P k) → (n a : ℕ)
    → IsTrue (list_any p (range_with_len a n)) ↔ ((k : ℕ) × (a ≤ k) × (k < a + n) × P k)
numbered p P each zero a = (λ h. absurd (false≢true h), λ (k, least, most, holds). absurd (omega arith))
numbered p P each (suc n) a =
    let joined = either_decided (p a) (list_any p (range_with_len (a + 1) n)) (P a) ((k : ℕ) × (a + 1 ≤ k) × (k < a + 1 + n) × P k) (each a) (numbered p P each n (a + 1)) in (
      λ h. elim (joined.0 h) [
        | inl here ↦ (a, omega arith, omega arith, here)
        | inr later ↦ (later.0, (let least = later.1 in omega arith), (let most = later.2 in omega arith), later.3)
      ],
      λ (k, least, most, holds). joined.1 (here_or_later k least most holds),
    )
  where
    here_or_later : (k : ℕ) → a ≤ k → k < a + suc n → P k → P a ⊎ ((k : ℕ) × (a + 1 ≤ k) × (k < a + 1 + n) × P k)
    here_or_later k least most holds = elim (known (a == k) (a ≡ k) (same_decided a k)) [
      | inl same ↦ inl (subst P (sym same) holds)
      | inr other ↦ inr (k, grind (arith, least, other), omega arith, holds)
    ]

-- some place from i to j, where the fact holds of no place outside
pub place_decided : (p : ℕ → Bool) (P : ℕ → Type 0) → ((k : ℕ) → IsTrue (p k) ↔ P k) → (i j : ℕ) → ((k : ℕ) → P k → (i ≤ k) × (k ≤ j))
    → IsTrue (some_place p i j) ↔ ((k : ℕ) × P k)
place_decided p P each i j inside =
    let some = numbered p P each (j - i + 1) i in (
      λ h. let found = some.0 h in (found.0, found.3),
      λ (k, holds). let bounds = inside k holds in some.1 (k, bounds.0, (let least = bounds.0 in let most = bounds.1 in omega arith), holds),
    )
