-- What the marks of a matcher's trace are, and what those of a still trace tell.
use Rattle.std.proofs.Common.{◌≡◌, ℕ, List, Bool, false, ◌&&◌, ◌||◌, refl, ap, ◌∙◌}
use Rattle.waf_model.specs.Pattern.{Matches}
use Rattle.pattern_match.specs.declared.matcher.Matcher.{Matcher, Nothing, Empty, OneOf, Start, End, Final, Both', Either', Star'}
use Rattle.pattern_match.specs.declared.place.Place.{Place}
use Rattle.pattern_match.specs.declared.trace.Trace.{Between}
use Rattle.pattern_match.specs.Marks.{Ends, marked, unmarked}
use Rattle.pattern_match.specs.Openings.{empty_at}
use Rattle.pattern_match.specs.Shapes.{shape}
use Rattle.pattern_match.specs.Steps.{enters, ends_after}
use Rattle.pattern_match.specs.Traces.{Parts, parts}
use Rattle.pattern_match.proofs.Tracking.{Reach, Rounds, Tracks}

-- the ends by their two tests
abbrev pub ends_of : Bool → Bool → Ends
ends_of through empty = record { through = through; empty = empty }

-- nothing is under way
abbrev pub still : Parts
still = parts (Between false)

-- marks change no part of the pattern
pub unmarked-marked : (m : Matcher) (trace : Parts) (place : Place) → unmarked (marked m trace place) ≡ shape m
unmarked-marked Nothing trace place = refl
unmarked-marked Empty trace place = refl
unmarked-marked (OneOf set) trace place = refl
unmarked-marked Start trace place = refl
unmarked-marked End trace place = refl
unmarked-marked Final trace place = refl
unmarked-marked (Both' p a q b opening) trace place =
    let one : unmarked (marked a (parts trace.first) place) ≡ shape a = unmarked-marked a (parts trace.first) place in
    let two : unmarked (marked b (parts trace.second) place) ≡ shape b = unmarked-marked b (parts trace.second) place in
    cc
unmarked-marked (Either' p a q b opening) trace place =
    let one : unmarked (marked a (parts trace.first) place) ≡ shape a = unmarked-marked a (parts trace.first) place in
    let two : unmarked (marked b (parts trace.second) place) ≡ shape b = unmarked-marked b (parts trace.second) place in
    cc
unmarked-marked (Star' p a first) trace place =
    let one : unmarked (marked a (parts trace.first) place) ≡ shape a = unmarked-marked a (parts trace.first) place in
    cc

-- whether a match of nothing ends doesn't depend on what is under way
pub empty_after : (m : Matcher) (trace : Parts) (before : Place) (e : Bool) (byte : ℕ) (place : Place) →
    (ends_after (marked m trace before) e byte place).empty ≡ empty_at m place
empty_after Nothing trace before e byte place = refl
empty_after Empty trace before e byte place = refl
empty_after (OneOf set) trace before e byte place = refl
empty_after Start trace before e byte place = refl
empty_after End trace before e byte place = refl
empty_after Final trace before e byte place = refl
empty_after (Both' p a q b opening) trace before e byte place =
    let goes_on : Bool = enters e (ends_of trace.ended (empty_at a before)) in
    ap (λ (x : Bool). x && (ends_after (marked b (parts trace.second) before) goes_on byte place).empty)
    (empty_after a (parts trace.first) before e byte place)
    ∙ ap (λ (x : Bool). empty_at a place && x) (empty_after b (parts trace.second) before goes_on byte place)
empty_after (Either' p a q b opening) trace before e byte place =
    ap (λ (x : Bool). x || (ends_after (marked b (parts trace.second) before) e byte place).empty)
    (empty_after a (parts trace.first) before e byte place)
    ∙ ap (λ (x : Bool). empty_at a place || x) (empty_after b (parts trace.second) before e byte place)
empty_after (Star' p a first) trace before e byte place = refl

-- before the first place a still trace tells all
pub tracks_still : (m : Matcher) (place : Place) (w : List ℕ) (E : ℕ → Type 0) → Tracks (marked m still place) w E 0
tracks_still Nothing place w E = tt
tracks_still Empty place w E = tt
tracks_still (OneOf set) place w E = tt
tracks_still Start place w E = tt
tracks_still End place w E = tt
tracks_still Final place w E = tt
tracks_still (Both' p a q b opening) place w E = (
  tracks_still a place w E,
  tracks_still b place w (Reach E (Matches w (unmarked (marked a still place)))),
  record { means = λ h. absurd (cc); shown = λ h. absurd h },
  tt,
)
tracks_still (Either' p a q b opening) place w E = (tracks_still a place w E, tracks_still b place w E)
tracks_still (Star' p a first) place w E = (
  tracks_still a place w (Reach E (Rounds (Matches w (unmarked (marked a still place))))),
  record { means = λ h. absurd (cc); shown = λ h. absurd h },
)
