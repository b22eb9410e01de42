use Rattle.std.proofs.Common.{◌≡◌, Bool, true, false, ◌<◌, length, arith, refl, sym, ap, ◌∙◌, subst, if◌then◌else◌}
use Rattle.std.specs.Int.{from_bool}
use Rattle.byte_automata.specs.Automaton.{accepting}
use Rattle.byte_automata.specs.Splitting.{AreParts}
use Rattle.byte_automata.proofs.Parting.{parts-push}
use Rattle.byte_automata.proofs.Splitting.{coarse-start, accept-more, number-below}
use Rattle.byte_automata.proofs.parts.by_acceptance.Goals as goal

as_number : (b : Bool) → from_bool b ≡ (if b then 1 else 0)
as_number true = refl
as_number false = refl

pub loop-state-preserved : goal.loop-state-preserved
loop-state-preserved c =
    let class = c.from-class.result in
    let state = c.loop-state.state in
    let of = c.loop-state.of.items in
    let p = c.loop-state.invariant.0 in
    let is : class ≡ (if accepting c.args.dfa.now state then 1 else 0) = c.from-class.ensures ∙ as_number c.accepting.result ∙ ap (λ b. if b then 1 else 0) c.accepting.ensures in
    rw (c.in_ok-push.ensures.items, c.in_ok-put.ensures, c.add.ensures) (
      parts-push state 2 class of c.loop-state.members c.loop-state.sizes (subst (λ n. n < 2) (sym is) (number-below (accepting c.args.dfa.now state))) p,
      accept-more c.args.dfa.now of state class p.lengths is c.loop-state.invariant.1,
    )

pub returns-clause-parts : goal.returns-clause-parts
returns-clause-parts c =
    let n : c.loop-state.state ≡ length c.args.dfa.now.states = omega (arith, c.loop-state-test.false, c.loop-state.auto.state-end, c.states-end.ensures.count) in
    subst (λ n. AreParts n 2 c.loop-state.of.items c.loop-state.members c.loop-state.sizes) n c.loop-state.invariant.0

pub returns-clause-coarse : goal.returns-clause-coarse
returns-clause-coarse c =
    let n : c.loop-state.state ≡ length c.args.dfa.now.states = omega (arith, c.loop-state-test.false, c.loop-state.auto.state-end, c.states-end.ensures.count) in
    coarse-start c.args.dfa.now c.loop-state.of.items (omega (arith, n, c.loop-state.invariant.0.lengths)) (λ s l. c.loop-state.invariant.1 s (omega (arith, l, n)))
