use Rattle.std.proofs.Common.{rules, tests}
use Rattle.std.proofs.lemmas.Iterator.{cases_from_any, YieldsList-from_slice}
use Rattle.waf_model.specs.AddressRange.{IsInSome}
use Rattle.match_eval.specs.ForwardedPieces.{IsPieceCounted}
use Rattle.match_eval.proofs.SomeOf.{decided, decided_mapped}
use Rattle.match_eval.proofs.forwarded_value.some_counts.Goals as goal

pub returns : goal.returns
returns c =
    let pieces = c.args.pieces.now in
    let counted = IsPieceCounted (IsInSome c.args.cover.now) c.args.fallback in
    decided_mapped c.any.result (λ piece. piece.now) counted pieces
    (decided c.any.result (λ piece. counted piece.now) pieces
    (cases_from_any _ _ _ (λ piece. counted piece.now) (λ piece. counted piece.now → ⊥) c.any.ensures.ran (YieldsList-from_slice pieces cc) (λ x q k. search (rules, tests)) (λ x q k. search (rules, tests))))
