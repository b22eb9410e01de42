-- The pattern that a text spells, as a function: the text is cut into pieces, and the reader's state moves over them
-- (this project's own; AWS WAF Developer Guide, "Supported syntax for regular expressions").
use Rattle.std.specs.Prelude.{ℕ, zero, suc, List, [], ◌∷◌, length, Bool, nat_le, if◌then◌else◌, Option, Some, None, option_and_then}
use Rattle.waf_model.specs.PatternGrammar.{folds, unfolded}
use Rattle.waf_model.specs.PatternPieces.{Piece, piece_at}
use Rattle.waf_model.specs.declared.pattern.Pattern.{Pattern}
use Rattle.pattern_read.specs.Machine.{first, run_from, closed}
use Rattle.pattern_read.specs.declared.group.Atom.{Atom}
use Rattle.pattern_read.specs.declared.group.Group.{Group}

infixl 10 ◌>>=◌
-- goes on from what is there
abbrev ◌>>=◌ : {A B : Type 0} → Option A → (A → Option B) → Option B
o >>= next = option_and_then next o

-- the pieces that a text is cut into: so many at most
abbrev pub pieces_of : Bool → List ℕ → ℕ → Option (List Piece)
pieces_of fold [] n = Some []
pieces_of fold (b ∷ rest) zero = None
pieces_of fold (b ∷ rest) (suc n) = do
  found ← piece_at fold (b ∷ rest)
  more ← pieces_of fold found.1 n
  Some (found.0 ∷ more)

-- the pattern of the whole, with no group open around it and at most 2,000 places
abbrev pub whole_pattern : List Group → Atom → Option Pattern
whole_pattern [] whole = if nat_le whole.places 2000 then Some whole.pattern else None
whole_pattern (g ∷ outer) whole = None

-- The pattern that the text spells, or none. A text has at most as many pieces as bytes.
unfoldable pub pattern_spelled : List ℕ → Option Pattern
pattern_spelled text = do
  all ← pieces_of (folds text) (unfolded text) (length text)
  state ← run_from all (Some first)
  whole_pattern state.outer (closed state.group)
