use Rattle.match_eval.proofs.ready.holds.Goals as goal

pub returns : goal.returns
returns c =
    c.in_ok-held.ensures c.args.statement.now (c.in_ok-ready.ensures c.args.context.now.bundle.now c.in_ok-sets.ensures)
