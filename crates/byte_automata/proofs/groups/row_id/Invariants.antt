use Rattle.std.proofs.Common.{reverse, take}
use Rattle.byte_automata.specs.Classes.{Spells}
use Rattle.byte_automata.specs.Grows.{Grows}
use Rattle.byte_automata.specs.Members.{AreDifferent}
use Rattle.byte_automata.proofs.groups.row_id.Given as goal

abbrev pub invariant-loop-edge : goal.invariant-loop-edge
invariant-loop-edge l =
    Spells l.base l.steps l.class (reverse (take l.edge-index l.row)) l.id × Grows (λ _. Unit {0}) l.initial.steps l.steps × (AreDifferent l.initial.steps → AreDifferent l.steps)
