use Rattle.std.proofs.Common.{◌≡◌, ◌<◌, length, set, get_or, ap, ◌∙◌, arith}
use Rattle.byte_automata.specs.Automaton.{flipped}
use Rattle.byte_automata.proofs.Runs.{flipped-more, flipped-at}
use Rattle.byte_automata.proofs.flip.flip_all.Goals as goal

pub loop-i-preserved : goal.loop-i-preserved
loop-i-preserved c =
    let xs = c.args.states.now.items in
    let i = c.loop-i.i in
    let now = c.index_mut-state.result.now in
    let l : i < length xs = omega (arith, c.loop-i-test.true, c.len-i-end.ensures, c.args.states.now.ok.0) in
    let at : now ≡ get_or xs i now = c.index_mut-state.ensures.value ∙ ap (λ t. get_or t i now) c.loop-i.invariant ∙ flipped-at xs i now l in
    (λ k. set (c.loop-i.invariant k) i (flipped (at k))) ∙ flipped-more xs i now l
