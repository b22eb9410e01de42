-- Transformations of single bytes: LOWERCASE, REMOVE_NULLS, REPLACE_NULLS (API type `TextTransformation`; each
-- definition is this project's own).
use Rattle.std.specs.Prelude.{ℕ, ◌+◌, List, map, filter, not, ◌==◌, ◌&&◌, nat_le, if◌then◌else◌}

-- A to Z become a to z
abbrev pub lower_case : ℕ → ℕ
lower_case b = if nat_le 65 b && nat_le b 90 then b + 32 else b

-- one byte becomes another
abbrev pub replace : ℕ → ℕ → ℕ → ℕ
replace old new b = if b == old then new else b

-- LOWERCASE: A to Z become a to z
unfoldable pub lower_cased : List ℕ → List ℕ
lower_cased text = map lower_case text

-- REMOVE_NULLS: the bytes 0 are deleted
unfoldable pub nulls_removed : List ℕ → List ℕ
nulls_removed text = filter (λ b. not (b == 0)) text

-- REPLACE_NULLS: the bytes 0 become spaces
unfoldable pub nulls_replaced : List ℕ → List ℕ
nulls_replaced text = map (replace 0 32) text
