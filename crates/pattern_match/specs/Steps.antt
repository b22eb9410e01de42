-- How a marked expression moves over one byte.
use Rattle.std.specs.Prelude.{ℕ, Bool, true, false, ◌&&◌, ◌||◌}
use Rattle.waf_model.specs.Pattern.{has_byte}
use Rattle.pattern_match.specs.declared.place.Place.{Place}
use Rattle.pattern_match.specs.Marks.{Ends, Marked, never, blank, byte_of, at_start, at_end, at_final, in_turn, one_or_other, in_rounds}

-- an expression in second place is entered where the first ended
abbrev pub enters : Bool → Ends → Bool
enters entered ends = ends.through || (entered && ends.empty)

-- how matches end at the new place
abbrev pub ends_after : Marked → Bool → ℕ → Place → Ends
ends_after never entered byte place = record { through = false; empty = false }
ends_after blank entered byte place = record { through = false; empty = true }
ends_after (byte_of set) entered byte place = record { through = entered && has_byte set byte; empty = false }
ends_after at_start entered byte place = record { through = false; empty = place.start }
ends_after at_end entered byte place = record { through = false; empty = place.end }
ends_after at_final entered byte place = record { through = false; empty = place.last }
ends_after (in_turn a ends b) entered byte place =
    let front : Ends = ends_after a entered byte place in
    let back : Ends = ends_after b (enters entered ends) byte place in
    record { through = back.through || (front.through && back.empty); empty = front.empty && back.empty }
ends_after (one_or_other a b) entered byte place =
    let front : Ends = ends_after a entered byte place in
    let back : Ends = ends_after b entered byte place in
    record { through = front.through || back.through; empty = front.empty || back.empty }
ends_after (in_rounds a through) entered byte place =
    record { through = (ends_after a (entered || through) byte place).through; empty = true }

-- the marks at the new place
abbrev pub stepped : Marked → Bool → ℕ → Place → Marked
stepped never entered byte place = never
stepped blank entered byte place = blank
stepped (byte_of set) entered byte place = byte_of set
stepped at_start entered byte place = at_start
stepped at_end entered byte place = at_end
stepped at_final entered byte place = at_final
stepped (in_turn a ends b) entered byte place =
    in_turn (stepped a entered byte place) (ends_after a entered byte place) (stepped b (enters entered ends) byte place)
stepped (one_or_other a b) entered byte place = one_or_other (stepped a entered byte place) (stepped b entered byte place)
stepped (in_rounds a through) entered byte place =
    in_rounds (stepped a (entered || through) byte place) (ends_after a (entered || through) byte place).through
