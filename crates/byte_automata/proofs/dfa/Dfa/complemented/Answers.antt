use Rattle.std.proofs.Common.{◌≡◌, map, arith, ap, ◌∙◌}
use Rattle.std.proofs.lemmas.List.{take_all}
use Rattle.byte_automata.specs.Automaton.{accepts, flipped}
use Rattle.byte_automata.proofs.Runs.{flipped-accepts, flipped-whole}
use Rattle.byte_automata.proofs.dfa.Dfa.complemented.Goals as goal
use Rattle.byte_automata.proofs.dfa.Dfa.complemented.Goals.{After-start}

done : (c : After-start) → c.states.states.items ≡ map flipped c.args.self.now.states
done c = c.states.invariant ∙ ap (map flipped) (take_all c.states.state c.args.self.now.states (omega (arith, c.states-test.false, c.states-end.ensures.count)))

pub of-requires : goal.of-requires
of-requires c = rw (c.start.ensures.start, done (goal.at.of-requires c).After-start) (flipped-whole c.args.self.now c.start.ensures.whole)

pub returns-clause-language : goal.returns-clause-language
returns-clause-language c =
    let at = (goal.at.returns-clause-language c).After-start in
    λ text. (λ i. accepts (record { start = (c.of.ensures.0 ∙ c.start.ensures.start) i; states = (c.of.ensures.1 ∙ done at) i }) text) ∙ flipped-accepts c.args.self.now c.start.ensures.whole text
