-- What the search has found out after so many steps.
use Rattle.std.proofs.Common.{◌≡◌, ℕ, suc, ◌<◌, ◌≤◌, inl, inr, List, length, Bool, true, false, ◌||◌, refl, sym, ap, ◌∙◌, subst, arith}
use Rattle.std.proofs.lemmas.Bool.{cases_lt}
use Rattle.waf_model.specs.Pattern.{Expression, expression, Matches, Found}
use Rattle.waf_model.specs.declared.pattern.Pattern.{Pattern}
use Rattle.pattern_match.specs.declared.place.Place.{Place}
use Rattle.pattern_match.specs.declared.place.Step.{Step}
use Rattle.pattern_match.specs.declared.matcher.Matcher.{Matcher}
use Rattle.pattern_match.specs.Marks.{Ends, Marked, marked, unmarked}
use Rattle.pattern_match.specs.Moves.{IsMoved}
use Rattle.pattern_match.specs.Openings.{empty_at}
use Rattle.pattern_match.specs.Places.{IsPlace}
use Rattle.pattern_match.specs.Shapes.{unrolled, IsMatcherOf}
use Rattle.pattern_match.specs.Steps.{ends_after, stepped}
use Rattle.pattern_match.specs.Traces.{Parts}
use Rattle.pattern_match.proofs.Unrolling.{forward, to_unrolled, from_unrolled}
use Rattle.pattern_match.proofs.Tracking.{Before, Now, Tells, ByteIs, Tracks, or_parts, or_left, or_right}
use Rattle.pattern_match.proofs.Marking.{still, unmarked-marked, empty_after, tracks_still}
use Rattle.pattern_match.proofs.Stepping.{step, unmarked-stepped}

-- a match may begin at any place
abbrev pub Anywhere : ℕ → Type 0
Anywhere k = Unit {0}

-- the marks tell what ends at the last place, and no match ended so far
pub record Searched (p : Pattern) (w : List ℕ) (m : Marked) (t : ℕ) : Type 0 where
  pub shape_is : unmarked m ≡ unrolled (expression p)
  pub tracks : Tracks m w Anywhere t
  pub none : (i j : ℕ) → j < t → Matches w (expression p) i j → ⊥

-- before the first place a still trace tells all
pub searched_first : (p : Pattern) (w : List ℕ) (m : Matcher) (place : Place) → IsMatcherOf (unrolled (expression p)) m →
    Searched p w (marked m still place) 0
searched_first p w m place built = record {
  shape_is = unmarked-marked m still place ∙ built.shape_is;
  tracks = tracks_still m place w Anywhere;
  none = λ i j below h. absurd (omega arith);
}

-- some match ends at the new place
ended : (E : ℕ → Type 0) (R : ℕ → ℕ → Type 0) → ((i j : ℕ) → R i j → i ≤ j) → ((k : ℕ) → E k) → (t : ℕ) (ends : Ends) →
    Tells ends.through (Before E R t) → Tells ends.empty (R t t) → Tells (ends.through || ends.empty) ((i : ℕ) × R i t)
ended E R up all t ends through nothing = record {
  means = λ h. elim (or_parts ends.through ends.empty h) [
    | inl so ↦ let (s, below, at, one) = through.means so in (s, one)
    | inr so ↦ (t, nothing.means so)
  ];
  shown = λ h.
      let (i, one) = h in
      let within : i ≤ t = up i t one in
      elim (cases_lt i t) [
        | inl below ↦ or_left ends.through ends.empty (through.shown (i, below, all i, one))
        | inr above ↦
            let same : i ≡ t = omega arith in
            or_right ends.through ends.empty (nothing.shown (subst (λ (x : ℕ). R x t) same one))
      ];
}

tells_now : (p : Pattern) (w : List ℕ) (m : Marked) (t : ℕ) (e : Bool) (b : ℕ) (place : Place) → Searched p w m t → ByteIs w t b →
    IsPlace w t place → Tells e (Now Anywhere t) →
    Tells ((ends_after m e b place).through || (ends_after m e b place).empty) ((i : ℕ) × Matches w (unmarked m) i t)
tells_now p w m t e b place so here at entered =
    let moved = step m w Anywhere t e b place here at so.tracks entered in
    ended Anywhere (Matches w (unmarked m)) (forward w (unmarked m)) (λ k. tt) t (ends_after m e b place) moved.through moved.nothing

pub searched_next : (p : Pattern) (w : List ℕ) (m : Marked) (t : ℕ) (e : Bool) (b : ℕ) (place : Place) → Searched p w m t → ByteIs w t b →
    IsPlace w t place → Tells e (Now Anywhere t) →
    ((ends_after m e b place).through || (ends_after m e b place).empty) ≡ false → Searched p w (stepped m e b place) (suc t)
searched_next p w m t e b place so here at entered unended = record {
  shape_is = let kept : unmarked (stepped m e b place) ≡ unmarked m = unmarked-stepped m e b place in let was = so.shape_is in cc;
  tracks = (step m w Anywhere t e b place here at so.tracks entered).tracks;
  none = λ i j below h. elim (cases_lt j t) [
    | inl under ↦ so.none i j under h
    | inr above ↦
        let same : j ≡ t = omega arith in
        let here_too : Matches w (unmarked m) i t =
        subst (λ (x : Expression). Matches w x i t) (sym so.shape_is)
        (to_unrolled w (expression p) i t (subst (λ (x : ℕ). Matches w (expression p) i x) same h)) in
        let shown = (tells_now p w m t e b place so here at entered).shown (i, here_too) in
        absurd (cc)
  ];
}

pub found_now : (p : Pattern) (w : List ℕ) (m : Marked) (t : ℕ) (e : Bool) (b : ℕ) (place : Place) → Searched p w m t → ByteIs w t b →
    IsPlace w t place → Tells e (Now Anywhere t) → t ≤ length w →
    ((ends_after m e b place).through || (ends_after m e b place).empty) ≡ true → Found p w
found_now p w m t e b place so here at entered within here_ends =
    let (i, one) = (tells_now p w m t e b place so here at entered).means here_ends in
    let plain : Matches w (expression p) i t =
    from_unrolled w (expression p) i t (subst (λ (x : Expression). Matches w x i t) so.shape_is one) in
    (i, t, (forward w (expression p) i t plain, within, plain))

-- what a test of the ends says
same_any : (x : Ends) (through none any b : Bool) → through ≡ x.through → x.empty ≡ none → any ≡ (through || none) → any ≡ b →
    (x.through || x.empty) ≡ b
same_any x through none any b one two is met =
    ap (λ (k : Bool). k || x.empty) (sym one) ∙ ap (λ (k : Bool). through || k) two ∙ sym is ∙ met

-- a step of the trace where some match ends
pub found_by : (p : Pattern) (w : List ℕ) (m : Matcher) (old new : Parts) (t : ℕ) (e : Bool) (taken : Step) (through any : Bool) →
    Searched p w (marked m old taken.before) t → ByteIs w t taken.byte → IsPlace w t taken.place → Tells e (Now Anywhere t) → t ≤ length w →
    IsMoved m old new e taken through → any ≡ (through || empty_at m taken.place) → any ≡ true → Found p w
found_by p w m old new t e taken through any so here at entered within moved is met =
    found_now p w (marked m old taken.before) t e taken.byte taken.place so here at entered within
    (same_any _ through (empty_at m taken.place) any true moved.through_is (empty_after m old taken.before e taken.byte taken.place) is met)

-- a step of the trace where none ends
pub next_by : (p : Pattern) (w : List ℕ) (m : Matcher) (old new : Parts) (t : ℕ) (e : Bool) (taken : Step) (through any : Bool) →
    Searched p w (marked m old taken.before) t → ByteIs w t taken.byte → IsPlace w t taken.place → Tells e (Now Anywhere t) →
    IsMoved m old new e taken through → any ≡ (through || empty_at m taken.place) → any ≡ false → Searched p w (marked m new taken.place) (suc t)
next_by p w m old new t e taken through any so here at entered moved is unmet =
    subst (λ (k : Marked). Searched p w k (suc t)) (sym moved.marks)
    (searched_next p w (marked m old taken.before) t e taken.byte taken.place so here at entered
    (same_any _ through (empty_at m taken.place) any false moved.through_is (empty_after m old taken.before e taken.byte taken.place) is unmet))

-- no place was entered before the first
pub nowhere : Tells false (Now Anywhere 0)
nowhere = record { means = λ h. absurd (cc); shown = λ h. absurd h }

pub everywhere : (p : ℕ) → Tells true (Now Anywhere (suc p))
everywhere p = record { means = λ h. tt; shown = λ h. refl }
