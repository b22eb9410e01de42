use Rattle.std.proofs.Common.{◌≡◌, ◌++◌, drop}
use Rattle.request_parts.specs.PieceViews.{texts}
use Rattle.waf_model.specs.Shown.{values_named}
use Rattle.request_parts.proofs.showing.each_value_named.Given as goal

-- those so far, with those of the pieces that are left, are all
abbrev pub invariant-loop-piece : goal.invariant-loop-piece
invariant-loop-piece l = l.values ++ values_named l.name (texts (drop l.piece-index l.pieces)) ≡ values_named l.name (texts l.pieces)
