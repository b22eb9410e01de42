use Rattle.std.proofs.Common.{◌≡◌, ◌++◌, drop, map}
use Rattle.waf_model.specs.NamedPieces.{value_of}
use Rattle.request_parts.specs.PieceViews.{texts}
use Rattle.request_parts.proofs.showing.each_value.Given as goal

-- those so far, with those of the pieces that are left, are all
abbrev pub invariant-loop-piece : goal.invariant-loop-piece
invariant-loop-piece l = l.values ++ map value_of (texts (drop l.piece-index l.pieces)) ≡ map value_of (texts l.pieces)
