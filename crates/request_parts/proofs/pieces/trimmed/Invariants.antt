use Rattle.std.proofs.Common.{◌≡◌, ◌++◌, drop, map}
use Rattle.waf_model.specs.Pieces.{without_spaces}
use Rattle.request_parts.specs.PieceViews.{texts}
use Rattle.request_parts.proofs.pieces.trimmed.Given as goal

-- those so far, with those of the pieces that are left, are all
abbrev pub invariant-loop-piece : goal.invariant-loop-piece
invariant-loop-piece l = texts l.rest.items ++ map without_spaces (texts (drop l.piece-index l.pieces)) ≡ map without_spaces (texts l.pieces)
