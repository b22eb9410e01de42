-- How matches of a matcher may begin, and the matchers that keep this rightly.
use Rattle.std.specs.Prelude.{◌≡◌, ℕ, Bool, true, false, ◌&&◌, ◌||◌}
use Rattle.waf_model.specs.Pattern.{has_byte}
use Rattle.pattern_match.specs.declared.matcher.Matcher.{Matcher, Nothing, Empty, OneOf, Start, End, Final, Both', Either', Star'}
use Rattle.pattern_match.specs.declared.opening.Opening.{Opening}
use Rattle.pattern_match.specs.declared.place.Place.{Place}
use Rattle.pattern_match.specs.Places.{has_place}

-- whether it matches the empty text at the place
abbrev pub empty_at : Matcher → Place → Bool
empty_at Nothing place = false
empty_at Empty place = true
empty_at (OneOf set) place = false
empty_at Start place = place.start
empty_at End place = place.end
empty_at Final place = place.last
empty_at (Both' p a q b opening) place = empty_at a place && empty_at b place
empty_at (Either' p a q b opening) place = empty_at a place || empty_at b place
empty_at (Star' p a first) place = true

-- whether the byte behind the place may begin a match from there
abbrev pub may_begin : Matcher → Place → ℕ → Bool
may_begin (OneOf set) before byte = has_byte set byte
may_begin (Both' p a q b opening) before byte = may_begin a before byte || (empty_at a before && may_begin b before byte)
may_begin (Either' p a q b opening) before byte = may_begin a before byte || may_begin b before byte
may_begin (Star' p a first) before byte = may_begin a before byte
may_begin other before byte = false

-- the opening is right for these tests: it has the very places, and the bytes at least
pub record IsOpening (empties : Place → Bool) (begins : Place → ℕ → Bool) (opening : Opening) : Type 0 where
  pub empty : (place : Place) → has_place opening.empty place ≡ empties place
  pub first : (before : Place) (byte : ℕ) → has_byte opening.first byte ≡ false → begins before byte ≡ false

-- what each part keeps of its matches' beginnings is right
abbrev pub IsSound : Matcher → Type 0
IsSound (Both' p a q b opening) =
    IsSound a × IsSound b
    × IsOpening (λ place. empty_at a place && empty_at b place)
    (λ before byte. may_begin a before byte || (empty_at a before && may_begin b before byte)) opening
IsSound (Either' p a q b opening) =
    IsSound a × IsSound b
    × IsOpening (λ place. empty_at a place || empty_at b place) (λ before byte. may_begin a before byte || may_begin b before byte) opening
IsSound (Star' p a first) = IsSound a × ((before : Place) (byte : ℕ) → has_byte first byte ≡ false → may_begin a before byte ≡ false)
IsSound other = Unit {0}
