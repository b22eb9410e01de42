-- The kinds of bytes of a command line, as CMD_LINE takes them one by one.
use Rattle.std.specs.Prelude.{ℕ, List, [], ◌∷◌, codes, Bool, not, ◌==◌, ◌&&◌, ◌||◌, if◌then◌else◌}
use Rattle.waf_model.specs.TransformBytes.{lower_case}
use Rattle.waf_model.specs.TransformSpaces.{is_among}

-- a mark that is deleted
abbrev pub is_mark : ℕ → Bool
is_mark b = is_among (codes "\\\"'^") b

-- a space, or what becomes one
abbrev pub is_between : ℕ → Bool
is_between b = b == 32 || is_among (codes ",;") b

-- the byte in lower case, behind the space before it, which goes before `/` and `(`
abbrev pub spaced_byte : Bool → ℕ → List ℕ
spaced_byte spaced b = if spaced && not (is_among (codes "/(") b) then 32 ∷ lower_case b ∷ [] else lower_case b ∷ []
