use Rattle.std.proofs.Common.{◌≡◌, ◌++◌, drop, slice_index}
use Rattle.byte_automata.specs.Row.{renamed, joined}
use Rattle.byte_automata.proofs.row.renamed_row.Given as goal

abbrev pub invariant-loop-i : goal.invariant-loop-i
invariant-loop-i l = l.row.items ++ joined (renamed (λ state. slice_index l.names state) (drop l.i l.edges)) ≡ joined (renamed (λ state. slice_index l.names state) l.edges)
