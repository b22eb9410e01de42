use Rattle.std.proofs.Common.{◌<◌, length, sym, subst}
use Rattle.byte_automata.proofs.Rows.{target-within}
use Rattle.byte_automata.proofs.dfa.Dfa.follow.Goals as goal

pub returns-clause-within : goal.returns-clause-within
returns-clause-within c =
    let n = length c.args.self.now.states in
    subst (λ x. x < n) (sym c.target_of.ensures) (target-within n c.edges_of.result.now c.args.byte c.edges_of.ensures.covers c.edges_of.ensures.targets)
