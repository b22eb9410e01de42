use Rattle.std.proofs.Common.{ap, ◌∙◌}
use Rattle.waf_model.specs.ForwardedAddress.{looked_at}
use Rattle.request_parts.specs.PieceViews.{texts}
use Rattle.match_eval.proofs.Forwarding.{result_is}
use Rattle.match_eval.proofs.forwarded_value.value_holds.Goals as goal

pub returns : goal.returns
returns c =
    let position = c.args.forwarded.now.position in
    result_is c.args.cover.now c.args.forwarded.now c.args.value.now (texts c.looked_at-tried.result.now) c.some_counts.result
    (c.looked_at-tried.ensures ∙ ap (λ pieces. looked_at position (texts pieces)) c.deref.ensures.value ∙ ap (looked_at position) c.in_ok-pieces.ensures)
    c.some_counts.ensures
