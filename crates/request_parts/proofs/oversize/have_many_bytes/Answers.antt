use Rattle.std.proofs.Common.{◌-◌, ◌<◌, arith}
use Rattle.waf_model.specs.Shown.{header_size}
use Rattle.request_parts.proofs.Totals.{past}
use Rattle.request_parts.proofs.oversize.have_many_bytes.Goals as goal

pub returns-then-size-bytes : goal.returns-then-size-bytes
returns-then-size-bytes c =
    let large : 8192 - c.loop-header.bytes < header_size c.header-item.result = omega (arith, c.size_of-size.ensures, c.if-size-bytes.true) in
    past header_size c.args.headers.now c.loop-header.header-index c.header-item.result c.loop-header.bytes 8192 (omega arith) c.header-item.is c.loop-header.invariant.1 large c.loop-header.invariant.0
