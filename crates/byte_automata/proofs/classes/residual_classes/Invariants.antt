use Rattle.std.proofs.Common.{◌-◌, ◌^◌}
use Rattle.byte_automata.proofs.Splitting.{IsSplitting}
use Rattle.byte_automata.proofs.classes.residual_classes.Given as goal

abbrev pub invariant-rounds : goal.invariant-rounds
invariant-rounds l = IsSplitting l.dfa l.parts.of.items l.parts.members l.parts.sizes l.count l.waiting.items

abbrev pub decreases-rounds : goal.decreases-rounds
decreases-rounds l = 2 ^ 32 - l.count
