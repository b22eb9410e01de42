use Rattle.std.proofs.Common.{◌≡◌, true, sym, arith}
use Rattle.std.proofs.lemmas.Bool.{le-leb}
use Rattle.std.specs.Prelude.{nat_le}
use Rattle.ip_text.proofs.Ranges.{range_is}
use Rattle.ip_text.proofs.range.range_from.Goals as goal

pub returns : goal.returns
returns c =
    let some : nat_le 1 c.args.bits ≡ true = le-leb 1 c.args.bits (omega arith) in
    rw some (sym (range_is _ _ c.args.bits c.without_rest-base.ensures.value _))
