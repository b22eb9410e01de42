-- A step that begins no match where nothing is under way changes nothing.
use Rattle.std.proofs.Common.{◌≡◌, ℕ, Bool, true, false, ◌&&◌, ◌||◌, refl, sym, ap, subst, ◌∙◌}
use Rattle.pattern_match.specs.declared.matcher.Matcher.{Matcher, Nothing, Empty, OneOf, Start, End, Final, Both', Either', Star'}
use Rattle.pattern_match.specs.declared.place.Place.{Place}
use Rattle.pattern_match.specs.declared.place.Step.{Step}
use Rattle.pattern_match.specs.declared.trace.Trace.{Trace}
use Rattle.pattern_match.specs.Marks.{Ends, Marked, in_turn, one_or_other, in_rounds, marked}
use Rattle.pattern_match.specs.Moves.{IsIdle, IsMoved}
use Rattle.pattern_match.specs.Openings.{empty_at, may_begin}
use Rattle.pattern_match.specs.Steps.{ends_after, stepped}
use Rattle.pattern_match.specs.Traces.{parts}
use Rattle.pattern_match.proofs.Marking.{ends_of, still}

-- a byte that begins no match of one after another begins none of the first, and none of the second where that is entered
quiet_both : (e a n b : Bool) → (e && (a || (n && b))) ≡ false → ((e && a) ≡ false) × (((e && n) && b) ≡ false)
quiet_both false a n b h = (refl, refl)
quiet_both true true n b h = absurd (cc)
quiet_both true false true b h = (refl, h)
quiet_both true false false b h = (refl, refl)

-- one that begins none of one or the other begins none of either
quiet_either : (e a b : Bool) → (e && (a || b)) ≡ false → ((e && a) ≡ false) × ((e && b) ≡ false)
quiet_either false a b h = (refl, refl)
quiet_either true true b h = absurd (cc)
quiet_either true false b h = (refl, h)

-- what such a step leaves and answers
record Idles (m : Matcher) (before : Place) (e : Bool) (byte : ℕ) (place : Place) : Type 0 where
  marks : stepped (marked m still before) e byte place ≡ marked m still place
  ends_are : ends_after (marked m still before) e byte place ≡ ends_of false (empty_at m place)

-- how matches of the whole end, where those of the parts end so
turn_ends : (front back : Ends) (x y : Bool) → front ≡ ends_of false x → back ≡ ends_of false y →
    ends_of (back.through || (front.through && back.empty)) (front.empty && back.empty) ≡ ends_of false (x && y)
turn_ends front back x y one two =
    ap (λ (k : Ends). ends_of (k.through || (front.through && k.empty)) (front.empty && k.empty)) two
    ∙ ap (λ (k : Ends). ends_of (false || (k.through && y)) (k.empty && y)) one

either_ends : (front back : Ends) (x y : Bool) → front ≡ ends_of false x → back ≡ ends_of false y →
    ends_of (front.through || back.through) (front.empty || back.empty) ≡ ends_of false (x || y)
either_ends front back x y one two =
    ap (λ (k : Ends). ends_of (front.through || k.through) (front.empty || k.empty)) two
    ∙ ap (λ (k : Ends). ends_of (k.through || false) (k.empty || y)) one

turn_marks : (a a' b b' : Marked) (ends ends' : Ends) → a ≡ a' → ends ≡ ends' → b ≡ b' → in_turn a ends b ≡ in_turn a' ends' b'
turn_marks a a' b b' ends ends' one two three = cc

round_marks : (a a' : Marked) (ends : Ends) (x : Bool) → a ≡ a' → ends ≡ ends_of false x → in_rounds a ends.through ≡ in_rounds a' false
round_marks a a' ends x one two = ap (λ (k : Marked). in_rounds k ends.through) one ∙ ap (λ (k : Ends). in_rounds a' k.through) two

or_false : (e : Bool) → (e || false) ≡ e
or_false true = refl
or_false false = refl

-- a step is idle where the byte begins no match
idle : (m : Matcher) (before : Place) (e : Bool) (byte : ℕ) (place : Place) → (e && may_begin m before byte) ≡ false →
    Idles m before e byte place
idle Nothing before e byte place quiet = record { marks = refl; ends_are = refl }
idle Empty before e byte place quiet = record { marks = refl; ends_are = refl }
idle (OneOf set) before e byte place quiet = record { marks = refl; ends_are = ap (λ (x : Bool). ends_of x false) quiet }
idle Start before e byte place quiet = record { marks = refl; ends_are = refl }
idle End before e byte place quiet = record { marks = refl; ends_are = refl }
idle Final before e byte place quiet = record { marks = refl; ends_are = refl }
idle (Both' p a q b opening) before e byte place quiet =
    let (one, two) = quiet_both e (may_begin a before byte) (empty_at a before) (may_begin b before byte) quiet in
    let first = idle a before e byte place one in
    let second = idle b before (e && empty_at a before) byte place two in
    record {
      marks = turn_marks _ _ _ _ _ _ first.marks first.ends_are second.marks;
      ends_are = turn_ends _ _ _ _ first.ends_are second.ends_are;
    }
idle (Either' p a q b opening) before e byte place quiet =
    let (one, two) = quiet_either e (may_begin a before byte) (may_begin b before byte) quiet in
    let first = idle a before e byte place one in
    let second = idle b before e byte place two in
    record {
      marks = ap (λ (x : Marked). one_or_other x (stepped (marked b still before) e byte place)) first.marks
          ∙ ap (λ (x : Marked). one_or_other (marked a still place) x) second.marks;
      ends_are = either_ends _ _ _ _ first.ends_are second.ends_are;
    }
idle (Star' p a first) before e byte place quiet =
    let inner : Idles a before (e || false) byte place =
    subst (λ (x : Bool). Idles a before x byte place) (sym (or_false e)) (idle a before e byte place quiet) in
    record {
      marks = round_marks _ _ _ _ inner.marks inner.ends_are;
      ends_are = ap (λ (k : Ends). ends_of k.through true) inner.ends_are;
    }

-- the trace may stay as it is
pub idle_moves : (m : Matcher) (trace : Trace) (e : Bool) (taken : Step) → IsIdle m trace e taken.byte →
    IsMoved m (parts trace) (parts trace) e taken false
idle_moves m trace e taken so =
    let quiet = idle m taken.before e taken.byte taken.place (so.none_begins taken.before) in
    let from_still : IsMoved m still still e taken false = record {
      marks = sym quiet.marks;
      through_is = sym (ap (λ (k : Ends). k.through) quiet.ends_are);
    } in
    subst (λ (x : Trace). IsMoved m (parts x) (parts x) e taken false) (sym so.still) from_still
