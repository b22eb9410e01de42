-- The segments of a path, taken from the first to the last.
use Rattle.std.specs.Prelude.{ℕ, List, [], ◌∷◌, ◌++◌, map, Bool, false, not, ◌&&◌, if◌then◌else◌}
use Rattle.std.specs.Borrow.{Bor}
use Rattle.waf_model.specs.TransformPaths.{is_here, is_above}

-- the texts behind references
abbrev pub texts : List (Bor (List ℕ)) → List (List ℕ)
texts segments = map (λ segment. segment.now) segments

-- there is a last one, and it isn't `..`
abbrev pub ends_below : List (List ℕ) → Bool
ends_below [] = false
ends_below (segment ∷ []) = not (is_above segment)
ends_below (segment ∷ next ∷ rest) = ends_below (next ∷ rest)

-- all but the last
abbrev pub without_last : List (List ℕ) → List (List ℕ)
without_last [] = []
without_last (segment ∷ []) = []
without_last (segment ∷ next ∷ rest) = segment ∷ without_last (next ∷ rest)

-- One segment more: an empty one and `.` are dropped, `..` takes back the last where there is one that isn't `..`, and
-- else the segment is kept.
abbrev pub with_segment : List (List ℕ) → List ℕ → List (List ℕ)
with_segment segments segment =
    if is_here segment then segments
    else if is_above segment && ends_below segments then without_last segments
    else segments ++ segment ∷ []
