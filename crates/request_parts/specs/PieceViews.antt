-- Pieces as the code sees them.
use Rattle.std.specs.Prelude.{ℕ, List, map}
use Rattle.std.specs.Borrow.{Bor}
use Rattle.waf_model.specs.NamedPieces.{name_of, value_of}
use Rattle.request_parts.specs.declared.named_piece.NamedPiece.{NamedPiece}

-- the texts behind references
abbrev pub texts : List (Bor (List ℕ)) → List (List ℕ)
texts pieces = map (λ piece. piece.now) pieces

-- a piece with its name and its value
abbrev pub named : List ℕ → NamedPiece
named piece = record { name = name_of piece; value = value_of piece }
