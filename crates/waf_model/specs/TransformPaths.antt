-- The transformation NORMALIZE_PATH (API type `TextTransformation`; the definition is this project's own).
use Rattle.std.specs.Prelude.{ℕ, List, [], ◌∷◌, ◌++◌, length, codes, Bool, false, not, ◌==◌, ◌&&◌, ◌||◌, if◌then◌else◌}
use Rattle.std.specs.List.{join_with_byte, starts_with}
use Rattle.std.specs.Str.{bytes_eq}
use Rattle.waf_model.specs.Pieces.{cut}

-- the segment names the place itself: it is empty or `.`
abbrev pub is_here : List ℕ → Bool
is_here segment = bytes_eq segment [] || bytes_eq segment (codes ".")

-- the segment names the place above: it is `..`
abbrev pub is_above : List ℕ → Bool
is_above segment = bytes_eq segment (codes "..")

-- the first of the segments is `..`
abbrev pub begins_above : List (List ℕ) → Bool
begins_above [] = false
begins_above (segment ∷ rest) = is_above segment

-- a list without its first member
abbrev pub tail : List (List ℕ) → List (List ℕ)
tail [] = []
tail (segment ∷ rest) = rest

-- The segments that are kept: an empty one and `.` are dropped, `..` is kept, and any other is kept unless a `..` takes
-- it back, which is the first that is kept of those behind it.
unfoldable pub kept : List (List ℕ) → List (List ℕ)
kept [] = []
kept (segment ∷ rest) =
    if is_here segment then kept rest
    else if not (is_above segment) && begins_above (kept rest) then tail (kept rest)
    else segment ∷ kept rest

-- the last of the segments is empty or `.`
abbrev pub ends_here : List (List ℕ) → Bool
ends_here [] = false
ends_here (segment ∷ []) = is_here segment
ends_here (segment ∷ next ∷ rest) = ends_here (next ∷ rest)

-- NORMALIZE_PATH: `/` where the text begins with it, the kept of its segments with `/` between, and `/` where one is kept
-- and the last segment of the text is empty or `.`
unfoldable pub path_normalized : List ℕ → List ℕ
path_normalized text =
    (if starts_with ◌==◌ text (codes "/") then codes "/" else [])
    ++ join_with_byte 47 (kept (cut 47 text))
    ++ (if not (length (kept (cut 47 text)) == 0) && ends_here (cut 47 text) then codes "/" else [])
