use Rattle.std.proofs.Common.{length, sym, ap, ◌∙◌, subst}
use Rattle.byte_automata.specs.FirstReach.{IsExplored}
use Rattle.byte_automata.specs.Shortest.{IsShortest}
use Rattle.byte_automata.specs.Words.{text_at}
use Rattle.byte_automata.proofs.Words.{none-accepted, first-shortest}
use Rattle.byte_automata.proofs.dfa.Dfa.shortest.Goals as goal

pub returns-in-None : goal.returns-in-None
returns-in-None c =
    let x = subst (λ o. IsExplored c.args.self.now o c.in_ok-explored.explored.arrivals.items (length o) 0) (sym c.as_slice.ensures) c.in_ok-explored.ensures in
    none-accepted c.args.self.now c.as_slice.result.now c.in_ok-explored.explored.arrivals.items x c.in-None.ensures

pub returns : goal.returns
returns c =
    let x = subst (λ o. IsExplored c.args.self.now o c.in_ok-explored.explored.arrivals.items (length o) 0) (sym c.as_slice.ensures) c.in_ok-explored.ensures in
    let f = c.in-Some.ensures in
    let same = c.in_ok-text-in-Some.ensures ∙ ap (λ t. text_at t c.in-Some.place) c.as_slice-in-Some.ensures.value in
    subst (IsShortest c.args.self.now) (sym same) (first-shortest c.args.self.now c.as_slice.result.now c.in_ok-explored.explored.arrivals.items x c.in-Some.place f.0 f.1 f.2)
