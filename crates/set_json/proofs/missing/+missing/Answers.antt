use Rattle.std.proofs.Common.{arith}
use Rattle.set_json.proofs.Misses.{part_behind, part_here}
use Rattle.set_json.proofs.missing.+missing.Goals as goal

pub missing_of_parts-returns-in-Some : goal.missing_of_parts-returns-in-Some
missing_of_parts-returns-in-Some t c =
    part_here c.args.bundle.now c.args.parts.now c.loop-part.part-index c.part-item.result c.in-Some.arn.now (omega arith) c.part-item.is c.loop-part.invariant c.in-Some.ensures

pub missing_of_parts-loop-part-preserved : goal.missing_of_parts-loop-part-preserved
missing_of_parts-loop-part-preserved t c =
    part_behind c.args.bundle.now c.args.parts.now c.loop-part.part-index c.part-item.result (omega arith) c.part-item.is c.loop-part.invariant c.in-None.ensures
