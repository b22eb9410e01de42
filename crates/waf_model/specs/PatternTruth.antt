-- Whether a pattern is found in a text, as a truth value: `Found` of `Pattern`, by trying all places (this project's own).
use Rattle.std.specs.Prelude.{ℕ, zero, suc, ◌+◌, ◌-◌, List, length, slice_get, Option, Some, None, Bool, true, false, ◌&&◌, ◌||◌, ◌==◌, nat_le}
use Rattle.std.specs.List.{list_any, range_with_len}
use Rattle.std.specs.Option.{option_map_or}
use Rattle.waf_model.specs.Pattern.{Expression, nothing, empty, one_of, start, end, final, both, either, repeat, expression, has_byte}
use Rattle.waf_model.specs.declared.pattern.Pattern.{Pattern}

-- some place from i to j passes
abbrev pub some_place : (ℕ → Bool) → ℕ → ℕ → Bool
some_place passes i j = list_any passes (range_with_len i (j - i + 1))

-- n matches follow one another from i to j
abbrev pub follow : (ℕ → ℕ → Bool) → ℕ → ℕ → ℕ → Bool
follow matches zero i j = j == i
follow matches (suc n) i j = some_place (λ m. matches i m && follow matches n m j) i j

-- the byte at a place passes
abbrev pub byte_passes : (ℕ → Bool) → List ℕ → ℕ → Bool
byte_passes passes w i = option_map_or passes (slice_get w i) false

-- so many times are not more than the most, where that is given
abbrev pub within_most : Option ℕ → ℕ → Bool
within_most None n = true
within_most (Some most) n = nat_le n most

-- The expression matches w from i to j. Of a repetition no more times than `least` and one for each byte need be tried,
-- since those that match nothing can be left out.
abbrev pub is_match : List ℕ → Expression → ℕ → ℕ → Bool
is_match w nothing i j = false
is_match w empty i j = j == i
is_match w (one_of set) i j = byte_passes (has_byte set) w i && j == i + 1
is_match w start i j = i == 0 && j == i
is_match w end i j = i == length w && j == i
is_match w final i j = (i == length w || (i + 1 == length w && byte_passes (λ b. b == 10) w i)) && j == i
is_match w (both a b) i j = some_place (λ m. is_match w a i m && is_match w b m j) i j
is_match w (either a b) i j = is_match w a i j || is_match w b i j
is_match w (repeat a least most) i j =
    list_any (λ n. within_most most n && follow (is_match w a) n i j) (range_with_len least (j - i + 1))

-- the pattern is found in w
abbrev pub is_found : Pattern → List ℕ → Bool
is_found p w = some_place (λ i. some_place (is_match w (expression p) i) i (length w)) 0 (length w)
