use Rattle.std.proofs.Common.{◌≡◌, ◌++◌, drop}
use Rattle.byte_automata.specs.Row.{joined}
use Rattle.byte_automata.proofs.row.joined_row.Given as goal

abbrev pub invariant-loop-i : goal.invariant-loop-i
invariant-loop-i l = l.row.items ++ joined (drop l.i l.edges) ≡ joined l.edges
