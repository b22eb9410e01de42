use Rattle.byte_automata.proofs.Rows.{target-run}
use Rattle.byte_automata.proofs.row.run_end_of.Goals as goal

pub returns-clause-alike : goal.returns-clause-alike
returns-clause-alike c = target-run c.args.edges.now c.args.byte c.place_of.result _ c.place_of.ensures
