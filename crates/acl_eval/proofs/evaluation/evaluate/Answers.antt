use Rattle.acl_eval.proofs.evaluation.evaluate.Goals as goal

pub returns : goal.returns
returns c = c.in_ok-outcome.ensures c.args.bundle.now (c.in_ok-prepared.ensures c.in_ok-sets.ensures) c.requires.whole
