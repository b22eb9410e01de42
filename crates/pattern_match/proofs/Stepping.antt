-- One step of a marked expression keeps what its marks tell, and answers how matches end at the new place.
use Rattle.std.proofs.Common.{◌≡◌, ℕ, zero, suc, ◌+◌, ◌≤◌, ◌⊎◌, inl, inr, List, Bool, true, false, ◌&&◌, ◌||◌, Some, None, slice_get, refl, sym, subst, arith}
use Rattle.std.proofs.lemmas.Bool.{cases_lt}
use Rattle.waf_model.specs.Pattern.{Expression, repeat, one_of, Matches, has_byte}
use Rattle.waf_model.specs.declared.pattern.ByteSet.{ByteSet}
use Rattle.pattern_match.specs.declared.place.Place.{Place}
use Rattle.pattern_match.specs.Marks.{Ends, Marked, never, blank, byte_of, at_start, at_end, at_final, in_turn, one_or_other, in_rounds, unmarked}
use Rattle.pattern_match.specs.Places.{IsPlace}
use Rattle.pattern_match.specs.Steps.{enters, ends_after, stepped}
use Rattle.pattern_match.proofs.Rounds.{times_up, times_last}
use Rattle.pattern_match.proofs.Unrolling.{forward}
use Rattle.pattern_match.proofs.Tracking.{Reach, Before, Rounds, Now, Tells, ByteIs, Tracks, and_parts, or_parts, and_both, or_left, or_right, enters_tells, again_tells, one_more}

-- a step changes no part of the pattern
pub unmarked-stepped : (m : Marked) (e : Bool) (b : ℕ) (place : Place) → unmarked (stepped m e b place) ≡ unmarked m
unmarked-stepped never e b place = refl
unmarked-stepped blank e b place = refl
unmarked-stepped (byte_of set) e b place = refl
unmarked-stepped at_start e b place = refl
unmarked-stepped at_end e b place = refl
unmarked-stepped at_final e b place = refl
unmarked-stepped (in_turn a ends c) e b place =
    let one : unmarked (stepped a e b place) ≡ unmarked a = unmarked-stepped a e b place in
    let two : unmarked (stepped c (enters e ends) b place) ≡ unmarked c = unmarked-stepped c (enters e ends) b place in
    cc
unmarked-stepped (one_or_other a c) e b place =
    let one : unmarked (stepped a e b place) ≡ unmarked a = unmarked-stepped a e b place in
    let two : unmarked (stepped c e b place) ≡ unmarked c = unmarked-stepped c e b place in
    cc
unmarked-stepped (in_rounds a through) e b place =
    let one : unmarked (stepped a (e || through) b place) ≡ unmarked a = unmarked-stepped a (e || through) b place in
    cc

-- what a step gives
pub record Steps (m m' : Marked) (ends : Ends) (w : List ℕ) (E : ℕ → Type 0) (t : ℕ) : Type 0 where
  pub tracks : Tracks m' w E (suc t)
  pub through : Tells ends.through (Before E (Matches w (unmarked m)) t)
  pub nothing : Tells ends.empty (Matches w (unmarked m) t t)

-- where no match is longer than nothing
none_through : (E : ℕ → Type 0) (R : ℕ → ℕ → Type 0) → ((i j : ℕ) → R i j → j ≡ i) → (t : ℕ) → Tells false (Before E R t)
none_through E R same t = record {
  means = λ h. absurd (cc);
  shown = λ h. let (s, below, at, step) = h in let is : t ≡ s = same s t step in absurd (omega arith);
}

byte_through : (set : ByteSet) (w : List ℕ) (E : ℕ → Type 0) (t : ℕ) (e : Bool) (b : ℕ) → ByteIs w t b → Tells e (Now E t) →
    Tells (e && has_byte set b) (Before E (Matches w (one_of set)) t)
byte_through set w E zero e b here entered = record {
  means = λ h. let (first, second) = and_parts e (has_byte set b) h in absurd (entered.means first);
  shown = λ h. let (s, below, at, step) = h in absurd (omega arith);
}
byte_through set w E (suc p) e b here entered = record {
  means = λ h. let (first, second) = and_parts e (has_byte set b) h in
      (p, omega arith, entered.means first, (b, here, second, omega arith));
  shown = λ h.
      let (s, below, at, step) = h in
      let (c, there, has, is) = step in
      let same : s ≡ p = omega arith in
      let read : slice_get w p ≡ Some c = subst (λ (x : ℕ). slice_get w x ≡ Some c) same there in
      let byte : c ≡ b = cc in
      and_both e (has_byte set b) (entered.shown (subst E same at)) (subst (λ (x : ℕ). has_byte set x ≡ true) byte has);
}

byte_nothing : (set : ByteSet) (w : List ℕ) (t : ℕ) → Tells false (Matches w (one_of set) t t)
byte_nothing set w t = record {
  means = λ h. absurd (cc);
  shown = λ h. let (c, there, has, is) = h in absurd (omega arith);
}

both_through : (E : ℕ → Type 0) (A B : ℕ → ℕ → Type 0) → ((i j : ℕ) → A i j → i ≤ j) → ((i j : ℕ) → B i j → i ≤ j) → (t : ℕ) (front back : Ends) →
    Tells front.through (Before E A t) → Tells back.through (Before (Reach E A) B t) → Tells back.empty (B t t) →
    Tells (back.through || (front.through && back.empty)) (Before E (λ i j. (m : ℕ) × A i m × B m j) t)
both_through E A B upA upB t front back first second nothing = record {
  means = λ h. elim (or_parts back.through (front.through && back.empty) h) [
    | inl so ↦
        let (m, below, reached, more) = second.means so in
        let (s, at, one) = reached in
        let within : s ≤ m = upA s m one in
        (s, omega arith, at, (m, one, more))
    | inr so ↦
        let (x, y) = and_parts front.through back.empty so in
        let (s, below, at, one) = first.means x in
        (s, below, at, (t, one, nothing.means y))
  ];
  shown = λ h.
      let (s, below, at, whole) = h in
      let (m, one, more) = whole in
      let within : m ≤ t = upB m t more in
      elim (cases_lt m t) [
        | inl under ↦ or_left back.through (front.through && back.empty) (second.shown (m, under, (s, at, one), more))
        | inr above ↦
            let same : m ≡ t = omega arith in
            or_right back.through (front.through && back.empty) (and_both front.through back.empty
            (first.shown (s, below, at, subst (λ (x : ℕ). A s x) same one))
            (nothing.shown (subst (λ (x : ℕ). B x t) same more)))
      ];
}

both_nothing : (A B : ℕ → ℕ → Type 0) → ((i j : ℕ) → A i j → i ≤ j) → ((i j : ℕ) → B i j → i ≤ j) → (t : ℕ) (x y : Bool) →
    Tells x (A t t) → Tells y (B t t) → Tells (x && y) ((m : ℕ) × A t m × B m t)
both_nothing A B upA upB t x y first second = record {
  means = λ h. let (one, two) = and_parts x y h in (t, first.means one, second.means two);
  shown = λ h.
      let (m, one, more) = h in
      let to : t ≤ m = upA t m one in
      let on : m ≤ t = upB m t more in
      let same : m ≡ t = omega arith in
      and_both x y (first.shown (subst (λ (k : ℕ). A t k) same one)) (second.shown (subst (λ (k : ℕ). B k t) same more));
}

either_through : (E : ℕ → Type 0) (A B : ℕ → ℕ → Type 0) (t : ℕ) (x y : Bool) →
    Tells x (Before E A t) → Tells y (Before E B t) → Tells (x || y) (Before E (λ i j. A i j ⊎ B i j) t)
either_through E A B t x y first second = record {
  means = λ h. elim (or_parts x y h) [
    | inl so ↦ let (s, below, at, one) = first.means so in (s, below, at, inl one)
    | inr so ↦ let (s, below, at, one) = second.means so in (s, below, at, inr one)
  ];
  shown = λ h.
      let (s, below, at, one) = h in
      elim one [ inl o ↦ or_left x y (first.shown (s, below, at, o)) | inr o ↦ or_right x y (second.shown (s, below, at, o)) ];
}

either_nothing : (P Q : Type 0) (x y : Bool) → Tells x P → Tells y Q → Tells (x || y) (P ⊎ Q)
either_nothing P Q x y first second = record {
  means = λ h. elim (or_parts x y h) [ inl so ↦ inl (first.means so) | inr so ↦ inr (second.means so) ];
  shown = λ h. elim h [ inl o ↦ or_left x y (first.shown o) | inr o ↦ or_right x y (second.shown o) ];
}

star_through : (E : ℕ → Type 0) (w : List ℕ) (a : Expression) (t : ℕ) (x : Bool) →
    Tells x (Before (Reach E (Rounds (Matches w a))) (Matches w a) t) → Tells x (Before E (Matches w (repeat a 0 None)) t)
star_through E w a t x ended = record {
  means = λ h.
      let (u, below, reached, step) = ended.means h in
      let (s, at, rounds) = reached in
      let (k, all) = rounds in
      let within : s ≤ u = times_up (Matches w a) (forward w a) k s u all in
      (s, omega arith, at, (k + 1, omega arith, tt, one_more (Matches w a) k s u t all step));
  shown = λ h.
      let (s, below, at, whole) = h in
      let (n, least, most, all) = whole in
      let (u, under, front, step) = times_last (Matches w a) (forward w a) n s t below all in
      ended.shown (u, under, (s, at, front), step);
}

-- one step
pub step : (m : Marked) (w : List ℕ) (E : ℕ → Type 0) (t : ℕ) (e : Bool) (b : ℕ) (place : Place) → ByteIs w t b → IsPlace w t place →
    Tracks m w E t → Tells e (Now E t) → Steps m (stepped m e b place) (ends_after m e b place) w E t
step never w E t e b place here at tracks entered = record {
  tracks = tt;
  through = record { means = λ h. absurd (cc); shown = λ h. let (s, below, from, one) = h in absurd one };
  nothing = record { means = λ h. absurd (cc); shown = λ h. absurd h };
}
step blank w E t e b place here at tracks entered = record {
  tracks = tt;
  through = none_through E (λ i j. j ≡ i) (λ i j h. h) t;
  nothing = record { means = λ h. refl; shown = λ h. refl };
}
step (byte_of set) w E t e b place here at tracks entered = record {
  tracks = tt;
  through = byte_through set w E t e b here entered;
  nothing = byte_nothing set w t;
}
step at_start w E t e b place here at tracks entered = record {
  tracks = tt;
  through = none_through E (λ i j. (i ≡ 0) × (j ≡ i)) (λ i j h. h.1) t;
  nothing = record { means = λ h. (at.start.0 h, refl); shown = λ h. at.start.1 h.0 };
}
step at_end w E t e b place here at tracks entered = record {
  tracks = tt;
  through = none_through E (Matches w (unmarked at_end)) (λ i j h. h.1) t;
  nothing = record { means = λ h. (at.end.0 h, refl); shown = λ h. at.end.1 h.0 };
}
step at_final w E t e b place here at tracks entered = record {
  tracks = tt;
  through = none_through E (Matches w (unmarked at_final)) (λ i j h. h.1) t;
  nothing = record { means = λ h. (at.last.0 h, refl); shown = λ h. at.last.1 h.0 };
}
step (in_turn a ends c) w E t e b place here at (first, second, through, nothing) entered =
    let enter : Tells (enters e ends) (Now (Reach E (Matches w (unmarked a))) t) =
    enters_tells E (Matches w (unmarked a)) (forward w (unmarked a)) t e ends entered through nothing in
    let one = step a w E t e b place here at first entered in
    let two = step c w (Reach E (Matches w (unmarked a))) t (enters e ends) b place here at second enter in
    let kept : unmarked a ≡ unmarked (stepped a e b place) = sym (unmarked-stepped a e b place) in
    record {
      tracks = subst (λ (x : Expression). Tracks (stepped a e b place) w E (suc t)
          × Tracks (stepped c (enters e ends) b place) w (Reach E (Matches w x)) (suc t)
          × Tells (ends_after a e b place).through (Before E (Matches w x) t)
          × Tells (ends_after a e b place).empty (Matches w x t t)) kept
          (one.tracks, two.tracks, one.through, one.nothing);
      through = both_through E (Matches w (unmarked a)) (Matches w (unmarked c)) (forward w (unmarked a)) (forward w (unmarked c)) t
          (ends_after a e b place) (ends_after c (enters e ends) b place) one.through two.through two.nothing;
      nothing = both_nothing (Matches w (unmarked a)) (Matches w (unmarked c)) (forward w (unmarked a)) (forward w (unmarked c)) t
          (ends_after a e b place).empty (ends_after c (enters e ends) b place).empty one.nothing two.nothing;
    }
step (one_or_other a c) w E t e b place here at (first, second) entered =
    let one = step a w E t e b place here at first entered in
    let two = step c w E t e b place here at second entered in
    record {
      tracks = (one.tracks, two.tracks);
      through = either_through E (Matches w (unmarked a)) (Matches w (unmarked c)) t
          (ends_after a e b place).through (ends_after c e b place).through one.through two.through;
      nothing = either_nothing (Matches w (unmarked a) t t) (Matches w (unmarked c) t t)
          (ends_after a e b place).empty (ends_after c e b place).empty one.nothing two.nothing;
    }
step (in_rounds a through) w E t e b place here at (inner, ended) entered =
    let enter : Tells (e || through) (Now (Reach E (Rounds (Matches w (unmarked a)))) t) =
    again_tells E (Matches w (unmarked a)) (forward w (unmarked a)) t e through entered ended in
    let one = step a w (Reach E (Rounds (Matches w (unmarked a)))) t (e || through) b place here at inner enter in
    let kept : unmarked a ≡ unmarked (stepped a (e || through) b place) = sym (unmarked-stepped a (e || through) b place) in
    record {
      tracks = subst (λ (x : Expression). Tracks (stepped a (e || through) b place) w (Reach E (Rounds (Matches w x))) (suc t)
          × Tells (ends_after a (e || through) b place).through (Before (Reach E (Rounds (Matches w x))) (Matches w x) t)) kept
          (one.tracks, one.through);
      through = star_through E w (unmarked a) t (ends_after a (e || through) b place).through one.through;
      nothing = record { means = λ h. (0, omega arith, tt, refl); shown = λ h. refl };
    }
