use Rattle.std.proofs.Common.{◌≡◌, ◌++◌, drop, length, filter, not}
use Rattle.std.specs.Prelude.{◌==◌}
use Rattle.request_parts.specs.PieceViews.{texts}
use Rattle.request_parts.proofs.pieces.filled.Given as goal

-- those so far, with those of the pieces that are left, are all
abbrev pub invariant-loop-piece : goal.invariant-loop-piece
invariant-loop-piece l =
    texts l.kept.items ++ filter (λ piece. not (length piece == 0)) (texts (drop l.piece-index l.pieces)) ≡ filter (λ piece. not (length piece == 0)) (texts l.pieces)
