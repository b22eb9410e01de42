-- Transformations of spaces: COMPRESS_WHITE_SPACE and CMD_LINE (API type `TextTransformation`; each definition is this
-- project's own).
use Rattle.std.specs.Prelude.{ℕ, List, [], ◌∷◌, map, filter, codes, Bool, false, not, ◌==◌, ◌&&◌, ◌||◌, nat_le, if◌then◌else◌}
use Rattle.std.specs.List.{list_any}
use Rattle.waf_model.specs.TransformBytes.{lower_case}

-- the byte is one of these
abbrev pub is_among : List ℕ → ℕ → Bool
is_among bytes b = list_any (λ c. b == c) bytes

-- the text begins with a byte that is one of these
abbrev pub begins_among : List ℕ → List ℕ → Bool
begins_among bytes [] = false
begins_among bytes (b ∷ rest) = is_among bytes b

-- the text without each space that stands before one of these bytes
abbrev pub unspaced_before : List ℕ → List ℕ → List ℕ
unspaced_before bytes [] = []
unspaced_before bytes (b ∷ rest) =
    if b == 32 && begins_among bytes rest then unspaced_before bytes rest else b ∷ unspaced_before bytes rest

-- each run of spaces becomes one: a space before a space goes
abbrev pub single_spaced : List ℕ → List ℕ
single_spaced text = unspaced_before (32 ∷ []) text

-- white space: the bytes 9 to 13, 32 and 160
abbrev pub is_white_space : ℕ → Bool
is_white_space b = (nat_le 9 b && nat_le b 13) || b == 32 || b == 160

-- COMPRESS_WHITE_SPACE: white space becomes spaces, then each run of spaces becomes one
unfoldable pub white_space_compressed : List ℕ → List ℕ
white_space_compressed text = single_spaced (map (λ b. if is_white_space b then 32 else b) text)

-- CMD_LINE, one step after another over the whole text: `\`, `"`, `'` and `^` are deleted; `,` and `;` become spaces;
-- each run of spaces becomes one; a space before `/` or `(` is deleted; A to Z become a to z
unfoldable pub command_line : List ℕ → List ℕ
command_line text =
    map lower_case
    (unspaced_before (codes "/(")
    (single_spaced (map (λ b. if is_among (codes ",;") b then 32 else b) (filter (λ b. not (is_among (codes "\\\"'^") b)) text))))
