use Rattle.std.proofs.Common.{arith}
use Rattle.waf_model.specs.RequestText.{header_text}
use Rattle.json_text.proofs.Commas.{commas_step}
use Rattle.request_parts.proofs.writing.push_headers.Goals as goal

pub loop-place-preserved : goal.loop-place-preserved
loop-place-preserved c =
    commas_step header_text c.args.headers.now c.loop-place.place c.index-headers-place.result _ _ _ _ (omega arith) c.index-headers-place.is
    c.loop-place.invariant c.in_ok-push_separator.ensures c.in_ok-push_header.ensures
