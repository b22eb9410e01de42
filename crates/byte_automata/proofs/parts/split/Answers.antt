use Rattle.std.proofs.Common.{◌+◌, ◌<◌, length, get_or, arith}
use Rattle.byte_automata.proofs.Parting.{parts-set, split-more}
use Rattle.byte_automata.proofs.parts.split.Goals as goal

pub loop-i-preserved : goal.loop-i-preserved
loop-i-preserved c =
    let i = c.loop-i.i in
    let state = get_or c.args.marked.now i 0 in
    let class = c.args.base + get_or c.args.groups.now i 0 in
    let l : i < length c.args.marked.now = omega arith in
    let small : state < c.args.states = c.requires.marked i 0 l in
    let below : class < c.args.count = c.requires.groups i 0 (omega (arith, l, c.requires.lengths)) in
    let p = c.loop-i.invariant.0 in
    rw (c.in_ok-put.ensures, c.add.ensures, c.remove.ensures) (
      parts-set c.args.states c.args.count class state c.loop-i.parts.of.items c.loop-i.parts.members c.loop-i.parts.sizes below small p,
      split-more c.args.parts.now.of.items c.loop-i.parts.of.items c.args.marked.now c.args.groups.now c.args.base i l (omega (arith, small, p.lengths)) c.requires.one_group c.loop-i.invariant.1,
    )
