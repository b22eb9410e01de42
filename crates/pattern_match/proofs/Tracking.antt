-- What a marked expression tells after so many steps: at the place one below their number.
use Rattle.std.proofs.Common.{◌≡◌, ℕ, zero, suc, ◌+◌, ◌<◌, ◌≤◌, ◌⊎◌, inl, inr, List, Bool, true, false, ◌&&◌, ◌||◌, Some, slice_get, refl, subst, arith}
use Rattle.std.proofs.lemmas.Bool.{cases_lt}
use Rattle.waf_model.specs.Pattern.{Matches, Times}
use Rattle.pattern_match.specs.Marks.{Ends, Marked, in_turn, one_or_other, in_rounds, unmarked}
use Rattle.pattern_match.specs.Steps.{enters}
use Rattle.pattern_match.proofs.Rounds.{times_up, times_add, times_last}

-- places that R leads to from an entered one
abbrev pub Reach : (ℕ → Type 0) → (ℕ → ℕ → Type 0) → ℕ → Type 0
Reach E R k = (s : ℕ) × E s × R s k

-- the same from an entered place that stands before
abbrev pub Before : (ℕ → Type 0) → (ℕ → ℕ → Type 0) → ℕ → Type 0
Before E R k = (s : ℕ) × (s < k) × E s × R s k

abbrev pub Rounds : (ℕ → ℕ → Type 0) → ℕ → ℕ → Type 0
Rounds R i j = (n : ℕ) × Times R n i j

-- P of the place after so many steps; before the first step there is none
abbrev pub Now : (ℕ → Type 0) → ℕ → Type 0
Now P zero = ⊥
Now P (suc p) = P p

-- the test tells whether P holds
pub record Tells (b : Bool) (P : Type 0) : Type 0 where
  pub means : b ≡ true → P
  pub shown : P → b ≡ true

abbrev pub EmptyTells : Bool → (ℕ → ℕ → Type 0) → ℕ → Type 0
EmptyTells b R zero = Unit {0}
EmptyTells b R (suc p) = Tells b (R p p)

abbrev pub ByteIs : List ℕ → ℕ → ℕ → Type 0
ByteIs w zero b = Unit {0}
ByteIs w (suc p) b = slice_get w p ≡ Some b

-- the expression was entered at the places E below the present one, and its marks tell how its parts end there
abbrev pub Tracks : Marked → List ℕ → (ℕ → Type 0) → ℕ → Type 0
Tracks (in_turn a ends b) w E t =
    Tracks a w E t × Tracks b w (Reach E (Matches w (unmarked a))) t
    × Tells ends.through (Now (Before E (Matches w (unmarked a))) t) × EmptyTells ends.empty (Matches w (unmarked a)) t
Tracks (one_or_other a b) w E t = Tracks a w E t × Tracks b w E t
Tracks (in_rounds a through) w E t =
    Tracks a w (Reach E (Rounds (Matches w (unmarked a)))) t
    × Tells through (Now (Before (Reach E (Rounds (Matches w (unmarked a)))) (Matches w (unmarked a))) t)
Tracks other w E t = Unit {0}

pub and_parts : (a b : Bool) → (a && b) ≡ true → (a ≡ true) × (b ≡ true)
and_parts true b h = (refl, h)
and_parts false b h = absurd (cc)

pub or_parts : (a b : Bool) → (a || b) ≡ true → (a ≡ true) ⊎ (b ≡ true)
or_parts true b h = inl refl
or_parts false b h = inr h

pub and_both : (a b : Bool) → a ≡ true → b ≡ true → (a && b) ≡ true
and_both true b x y = y
and_both false b x y = x

pub or_left : (a b : Bool) → a ≡ true → (a || b) ≡ true
or_left true b x = refl
or_left false b x = absurd (cc)

pub or_right : (a b : Bool) → b ≡ true → (a || b) ≡ true
or_right true b x = refl
or_right false b x = x

-- the second is entered where the first ended
pub enters_tells : (E : ℕ → Type 0) (R : ℕ → ℕ → Type 0) → ((i j : ℕ) → R i j → i ≤ j) → (t : ℕ) (e : Bool) (ends : Ends) →
    Tells e (Now E t) → Tells ends.through (Now (Before E R) t) → EmptyTells ends.empty R t →
    Tells (enters e ends) (Now (Reach E R) t)
enters_tells E R up zero e ends entered through nothing = record {
  means = λ h. elim (or_parts ends.through (e && ends.empty) h) [
    | inl so ↦ through.means so
    | inr so ↦ let (first, second) = and_parts e ends.empty so in entered.means first
  ];
  shown = λ h. absurd h;
}
enters_tells E R up (suc p) e ends entered through nothing = record {
  means = λ h. elim (or_parts ends.through (e && ends.empty) h) [
    | inl so ↦ let (s, below, at, step) = through.means so in (s, at, step)
    | inr so ↦ let (first, second) = and_parts e ends.empty so in (p, entered.means first, nothing.means second)
  ];
  shown = λ h.
      let (s, at, step) = h in
      let within : s ≤ p = up s p step in
      elim (cases_lt s p) [
        | inl below ↦ or_left ends.through (e && ends.empty) (through.shown (s, below, at, step))
        | inr above ↦
            let same : s ≡ p = omega arith in
            or_right ends.through (e && ends.empty) (and_both e ends.empty
            (entered.shown (subst E same at)) (nothing.shown (subst (λ (x : ℕ). R x p) same step)))
      ];
}

-- one more match at the end
pub one_more : (R : ℕ → ℕ → Type 0) (k s u j : ℕ) → Times R k s u → R u j → Times R (k + 1) s j
one_more R k s u j all step = times_add R k 1 s u j all (j, step, refl)

-- a star's inner matcher is entered from outside, and where it ended itself
pub again_tells : (E : ℕ → Type 0) (R : ℕ → ℕ → Type 0) → ((i j : ℕ) → R i j → i ≤ j) → (t : ℕ) (e through : Bool) →
    Tells e (Now E t) → Tells through (Now (Before (Reach E (Rounds R)) R) t) →
    Tells (e || through) (Now (Reach E (Rounds R)) t)
again_tells E R up zero e through entered ended = record {
  means = λ h. elim (or_parts e through h) [ inl so ↦ entered.means so | inr so ↦ ended.means so ];
  shown = λ h. absurd h;
}
again_tells E R up (suc p) e through entered ended = record {
  means = λ h. elim (or_parts e through h) [
    | inl so ↦ (p, entered.means so, (0, refl))
    | inr so ↦
        let (u, below, reached, step) = ended.means so in
        let (s, at, rounds) = reached in
        let (k, all) = rounds in
        (s, at, (k + 1, one_more R k s u p all step))
  ];
  shown = λ h.
      let (s, at, rounds) = h in
      let (k, all) = rounds in
      let within : s ≤ p = times_up R up k s p all in
      elim (cases_lt s p) [
        | inl below ↦
            let (u, under, front, step) = times_last R up k s p below all in
            or_right e through (ended.shown (u, under, (s, at, front), step))
        | inr above ↦
            let same : s ≡ p = omega arith in
            or_left e through (entered.shown (subst E same at))
      ];
}
