use Rattle.std.proofs.Common.{◌≡◌, ◌<◌, length, get_or, arith, sym, ap, ◌∙◌, subst}
use Rattle.std.proofs.lemmas.List.{get_or_default}
use Rattle.byte_automata.specs.Least.{Redirects}
use Rattle.byte_automata.specs.Row.{joined, renamed}
use Rattle.byte_automata.proofs.Redirects.{IsRedirecting, redirecting-more, redirecting-whole, redirects}
use Rattle.byte_automata.proofs.redirected.redirected.Goals as goal
use Rattle.byte_automata.proofs.redirected.redirected.Goals.{After-index-start}

pub states-preserved : goal.states-preserved
states-preserved c =
    let row : c.in_ok-row.row.items ≡ joined (renamed (λ s. get_or c.as_slice.result.now s 0) c.edges_of.result.now) = c.in_ok-row.ensures in
    let h = redirecting-more c.args.dfa.now c.in_ok-names.names.items c.states.state c.states.states.items c.accepting.result c.in_ok-row.row.items c.states.invariant c.accepting.ensures
    (row ∙ (λ i. joined (renamed (λ s. get_or (c.as_slice.ensures.value i) s 0) (c.edges_of.ensures.edges i)))) in
    rw (c.in_ok-push_state.ensures, c.from_vec.ensures) h

done : (c : After-index-start) → IsRedirecting c.args.dfa.now c.in_ok-names.names.items (length c.args.dfa.now.states) c.states.states.items
done c = subst (λ n. IsRedirecting c.args.dfa.now c.in_ok-names.names.items n c.states.states.items) (let e : c.states.state ≡ length c.args.dfa.now.states = omega (arith, c.states-test.false, c.states.auto.state-end, c.states-end.ensures.count) in e) c.states.invariant

start : (c : After-index-start) → c.index-start.result.now ≡ get_or c.in_ok-names.names.items c.args.dfa.now.start 0
start c =
    let l : c.start.result < length c.in_ok-names.names.items = omega (arith, c.start.ensures.start, c.start.ensures.whole.start, c.in_ok-names.ensures.lengths, c.requires.classes.lengths) in
    c.index-start.ensures ∙ get_or_default c.in_ok-names.names.items c.start.result c.index-start.result.now 0 l ∙ ap (λ n. get_or c.in_ok-names.names.items n 0) c.start.ensures.start

pub of-requires : goal.of-requires
of-requires c =
    let at = (goal.at.of-requires c).After-index-start in
    rw (start at) (redirecting-whole c.args.dfa.now c.start.ensures.whole c.args.classes.now c.in_ok-names.names.items c.states.states.items c.requires.classes c.in_ok-names.ensures (done at))

pub returns : goal.returns
returns c =
    let at = (goal.at.returns c).After-index-start in
    subst (Redirects c.args.dfa.now) (λ i. record { start = (sym (c.of.ensures.0 ∙ start at)) i; states = sym c.of.ensures.1 i })
    (redirects c.args.dfa.now c.start.ensures.whole c.args.classes.now c.in_ok-names.names.items c.states.states.items c.requires.classes c.in_ok-names.ensures (done at))
