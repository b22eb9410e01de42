-- The grammar of patterns (this project's own; AWS WAF Developer Guide, "Supported syntax for regular expressions").
use Rattle.std.specs.Prelude.{◌≡◌, ℕ, ◌+◌, ◌*◌, ◌≤◌, max, List, [], ◌∷◌, ◌++◌, map, Bool, ◌&&◌, if◌then◌else◌, Option}
use Rattle.waf_model.specs.PatternPieces.{Piece, set, anchor, opens, closes, bar, count, IsCut, begins_with, tail}
use Rattle.waf_model.specs.declared.pattern.ByteSet.{ByteSet}
use Rattle.waf_model.specs.declared.pattern.Pattern.{Pattern, Empty, Set, Seq, Alt, Repeat}

-- A count: the times at least and at most, and the factor of places.
pub data Count : Type 0 where
  once : Count
  times : (least : ℕ) (most : Option ℕ) (factor : ℕ) → Count

-- What is written, from left to right: anchors, sets and groups, each of the last two with its count, and the bars
-- between alternatives.
pub data Written : Type 0 where
  nothing : Written
  anchored : (pattern : Pattern) (rest : Written) → Written
  one_of : (bytes : ByteSet) (counted : Count) (rest : Written) → Written
  group : (inner : Written) (counted : Count) (rest : Written) → Written
  barred : (rest : Written) → Written

abbrev pub count_pieces : Count → List Piece → List Piece
count_pieces once more = more
count_pieces (times least most factor) more = count least most factor ∷ more

-- its pieces, and then more
abbrev pub pieces : Written → List Piece → List Piece
pieces nothing more = more
pieces (anchored pattern rest) more = anchor pattern ∷ pieces rest more
pieces (one_of bytes counted rest) more = set bytes ∷ count_pieces counted (pieces rest more)
pieces (group inner counted rest) more = opens ∷ pieces inner (closes ∷ count_pieces counted (pieces rest more))
pieces (barred rest) more = bar ∷ pieces rest more

abbrev pub repeated : Pattern → Count → Pattern
repeated pattern once = pattern
repeated pattern (times least most factor) = Repeat pattern least most

-- a sequence of no item is Empty, of one item that item
abbrev pub sequence : List Pattern → Pattern
sequence [] = Empty
sequence (item ∷ []) = item
sequence (item ∷ other ∷ items) = Seq (item ∷ other ∷ items)

-- an alternative of one is that one
abbrev pub choice : List Pattern → Pattern
choice (one ∷ []) = one
choice parts = Alt parts

-- a further item at the front of the first alternative
abbrev pub item_first : Pattern → List (List Pattern) → List (List Pattern)
item_first item [] = (item ∷ []) ∷ []
item_first item (first ∷ others) = (item ∷ first) ∷ others

-- the items of each alternative
abbrev pub alternatives : Written → List (List Pattern)
alternatives nothing = [] ∷ []
alternatives (anchored pattern rest) = item_first pattern (alternatives rest)
alternatives (one_of bytes counted rest) = item_first (repeated (Set bytes) counted) (alternatives rest)
alternatives (group inner counted rest) = item_first (repeated (choice (map sequence (alternatives inner))) counted) (alternatives rest)
alternatives (barred rest) = [] ∷ alternatives rest

-- the pattern that is written: a group is what it holds
abbrev pub pattern_of : Written → Pattern
pattern_of written = choice (map sequence (alternatives written))

abbrev pub factor_of : Count → ℕ
factor_of once = 1
factor_of (times least most factor) = factor

-- a byte, set or anchor has one place; sequences and alternatives add; a count multiplies
abbrev pub places : Written → ℕ
places nothing = 0
places (anchored pattern rest) = 1 + places rest
places (one_of bytes counted rest) = factor_of counted + places rest
places (group inner counted rest) = places inner * factor_of counted + places rest
places (barred rest) = places rest

-- how deep its groups are nested
abbrev pub depth : Written → ℕ
depth nothing = 0
depth (anchored pattern rest) = depth rest
depth (one_of bytes counted rest) = depth rest
depth (group inner counted rest) = max (depth inner + 1) (depth rest)
depth (barred rest) = depth rest

-- what is written has these pieces, at most 2,000 places, and groups nested 100 deep at most
pub record Writes (all : List Piece) (pattern : Pattern) (written : Written) : Type 0 where
  pub pieces_are : pieces written [] ≡ all
  pub few_places : places written ≤ 2000
  pub not_deep : depth written ≤ 100
  pub pattern_is : pattern_of written ≡ pattern

-- the text begins `(?i)`
abbrev pub folds : List ℕ → Bool
folds text =
    begins_with 40 text && begins_with 63 (tail text) && begins_with 105 (tail (tail text)) && begins_with 41 (tail (tail (tail text)))

-- what follows it
abbrev pub unfolded : List ℕ → List ℕ
unfolded text = if folds text then tail (tail (tail (tail text))) else text

-- The text spells the pattern: it is cut into the pieces of something written, within the bounds.
abbrev pub Spells : List ℕ → Pattern → Type 0
Spells text pattern =
    (all : List Piece) × (written : Written) × IsCut (folds text) (unfolded text) all × Writes all pattern written
