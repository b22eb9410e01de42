use Rattle.std.proofs.Common.{◌≡◌, suc, ◌-◌, ◌<◌, length, arith}
use Rattle.byte_automata.proofs.Words.{text-back}
use Rattle.byte_automata.proofs.shortest.text_of.Goals as goal

pub back-preserved : goal.back-preserved
back-preserved c =
    let k = c.back.place - 1 in
    let l : k < length c.args.arrivals.now = omega (arith, c.back-test.true, c.back.invariant.0) in
    let e : c.back.place ≡ suc k = omega (arith, c.back-test.true) in
    let earlier = c.requires.earlier k l in
    rw c.in_ok-push.ensures.items
    (omega (arith, earlier, l), text-back c.args.arrivals.now c.requires.earlier c.back.place k c.back.text.items _ e l c.back.invariant.1)
