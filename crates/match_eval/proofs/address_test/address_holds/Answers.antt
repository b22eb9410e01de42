use Rattle.match_eval.proofs.address_test.address_holds.Goals as goal

pub returns-in-Some : goal.returns-in-Some
returns-in-Some c = rw c.in-Some.is c.forwarded_holds.ensures
