-- What is asked of a place of the text, and which places a set has.
use Rattle.std.specs.Prelude.{◌≡◌, ℕ, ◌+◌, ◌⊎◌, ◌↔◌, List, length, slice_get, Some, IsTrue, Bool, if◌then◌else◌}
use Rattle.waf_model.specs.Pattern.{has_bit}
use Rattle.pattern_match.specs.declared.place.Place.{Place}
use Rattle.pattern_match.specs.declared.place_set.PlaceSet.{PlaceSet}

-- the place tells where it stands in the text: at the start, at the very end, and there or before one final byte 10
pub record IsPlace (w : List ℕ) (at : ℕ) (place : Place) : Type 0 where
  pub start : IsTrue place.start ↔ (at ≡ 0)
  pub end : IsTrue place.end ↔ (at ≡ length w)
  pub last : IsTrue place.last ↔ ((at ≡ length w) ⊎ ((at + 1 ≡ length w) × (slice_get w at ≡ Some 10)))

-- the number of the places of which the same is known: bit 0 for the start, bit 1 for the very end, bit 2 for the last
abbrev pub place_number : Place → ℕ
place_number place = (if place.start then 1 else 0) + (if place.end then 2 else 0) + (if place.last then 4 else 0)

-- the place is in the set
abbrev pub has_place : PlaceSet → Place → Bool
has_place set place = has_bit set.mask (place_number place)
