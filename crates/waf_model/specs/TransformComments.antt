-- The transformation REPLACE_COMMENTS (API type `TextTransformation`; the definition is this project's own).
use Rattle.std.specs.Prelude.{ℕ, ◌+◌, List, [], ◌∷◌, drop, codes, ◌==◌, if◌then◌else◌, Option, Some, None}
use Rattle.std.specs.List.{starts_with}
use Rattle.waf_model.specs.TransformScan.{Taken, scanned}

-- how many bytes stand up to the first `*/`, that included, or in all where there is none
abbrev pub comment_rest : List ℕ → ℕ
comment_rest [] = 0
comment_rest (b ∷ rest) = if starts_with ◌==◌ (b ∷ rest) (codes "*/") then 2 else 1 + comment_rest rest

-- a comment at the front: `/*`, and all up to and with the first `*/` behind it, or else all the rest; it becomes one
-- space
abbrev pub comment_at : List ℕ → Option Taken
comment_at text = if starts_with ◌==◌ text (codes "/*")
    then Some (record { image = codes " "; size = 2 + comment_rest (drop 2 text) }) else None

-- REPLACE_COMMENTS: each comment becomes one space, and a lone `*/` stays
unfoldable pub comments_replaced : List ℕ → List ℕ
comments_replaced text = scanned comment_at 0 text
