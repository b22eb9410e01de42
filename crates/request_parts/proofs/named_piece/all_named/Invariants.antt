use Rattle.std.proofs.Common.{◌≡◌, ◌++◌, drop, map}
use Rattle.request_parts.specs.PieceViews.{named, texts}
use Rattle.request_parts.proofs.named_piece.all_named.Given as goal

-- those so far, with those of the pieces that are left, are all
abbrev pub invariant-loop-piece : goal.invariant-loop-piece
invariant-loop-piece l = l.all ++ map named (texts (drop l.piece-index l.pieces)) ≡ map named (texts l.pieces)
