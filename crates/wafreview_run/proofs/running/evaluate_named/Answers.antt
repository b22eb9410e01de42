use Rattle.wafreview_run.proofs.running.evaluate_named.Goals as goal

pub returns-in-Some : goal.returns-in-Some
returns-in-Some g c = rw c.in-Some.is c.evaluate_under.ensures
