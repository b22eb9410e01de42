-- Whether a text passes a test, as a truth value: `Passes`, by trying all places (this project's own).
use Rattle.std.specs.Prelude.{ℕ, List, [], ◌∷◌, length, drop, take, reverse, Bool, true, not, ◌&&◌, ◌==◌, nat_lt, nat_le}
use Rattle.std.specs.List.{ends_with, list_any, starts_with}
use Rattle.std.specs.Str.{bytes_eq}
use Rattle.waf_model.specs.Passes.{Test, is_word_byte}
use Rattle.waf_model.specs.Passes as tests
use Rattle.waf_model.specs.PatternTruth.{is_found, some_place}
use Rattle.waf_model.specs.declared.matching.Compare.{Compare}
use Rattle.waf_model.specs.declared.matching.Compare.TheVariants as compares
use Rattle.waf_model.specs.declared.matching.Position.{Position}
use Rattle.waf_model.specs.declared.matching.Position.TheVariants as positions

-- the text is empty or begins with a byte outside of words
abbrev pub begins_outside : List ℕ → Bool
begins_outside [] = true
begins_outside (b ∷ rest) = not (is_word_byte b)

-- the text is empty or ends in a byte outside of words
abbrev pub ends_outside : List ℕ → Bool
ends_outside text = begins_outside (reverse text)

-- the search string stands in the text behind so many bytes
abbrev pub stands_at : List ℕ → List ℕ → ℕ → Bool
stands_at search text k = starts_with ◌==◌ (drop k text) search

-- and there it is a word
abbrev pub is_word_at : List ℕ → List ℕ → ℕ → Bool
is_word_at search text k = stands_at search text k && ends_outside (take k text) && begins_outside (drop (length search) (drop k text))

-- the search string stands in the text so
abbrev pub stands : Position → List ℕ → List ℕ → Bool
stands positions.Exactly search text = bytes_eq text search
stands positions.Starts search text = starts_with ◌==◌ text search
stands positions.Ends search text = ends_with ◌==◌ text search
stands positions.Contains search text = some_place (stands_at search text) 0 (length text)
stands positions.Word search text = some_place (is_word_at search text) 0 (length text)

-- a length, in bytes, compared with a size
abbrev pub compares_so : Compare → ℕ → ℕ → Bool
compares_so compares.Eq bytes size = bytes == size
compares_so compares.Ne bytes size = not (bytes == size)
compares_so compares.Le bytes size = nat_le bytes size
compares_so compares.Lt bytes size = nat_lt bytes size
compares_so compares.Ge bytes size = nat_le size bytes
compares_so compares.Gt bytes size = nat_lt size bytes

-- the text passes the test
abbrev pub passes : Test → List ℕ → Bool
passes (tests.search position text) w = stands position text w
passes (tests.size op bytes) w = compares_so op (length w) bytes
passes (tests.patterns all) w = list_any (λ pattern. is_found pattern w) all
