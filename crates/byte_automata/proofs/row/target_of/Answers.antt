use Rattle.std.proofs.Common.{sym}
use Rattle.byte_automata.proofs.Rows.{target-at}
use Rattle.byte_automata.proofs.row.target_of.Goals as goal

pub returns : goal.returns
returns c = sym (target-at c.args.edges.now c.args.byte c.place_of.result _ c.place_of.ensures)
