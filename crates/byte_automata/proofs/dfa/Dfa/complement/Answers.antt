use Rattle.std.proofs.Common.{not, ◌∙◌}
use Rattle.byte_automata.specs.Automaton.{accepts}
use Rattle.byte_automata.proofs.Runs.{flipped-accepts, flipped-whole}
use Rattle.byte_automata.proofs.dfa.Dfa.complement.Goals as goal

pub invariant_of-result : goal.invariant_of-result
invariant_of-result c = rw c.flip_all.ensures (flipped-whole _ c.self.invariant)

pub returns-clause-language : goal.returns-clause-language
returns-clause-language c =
    λ text. (λ i. accepts (record { start = c.self.inside.start; states = c.flip_all.ensures i }) text) ∙ flipped-accepts _ c.self.invariant text ∙ (λ i. not (accepts (c.self.view_is i) text))
