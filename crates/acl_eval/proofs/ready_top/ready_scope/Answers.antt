use Rattle.acl_eval.proofs.ready_top.ready_scope.Goals as goal

pub returns-in_ok-ready-in-Some : goal.returns-in_ok-ready-in-Some
returns-in_ok-ready-in-Some c = λ bundle sets. (c.in-Some.statement, c.in-Some.is, c.in_ok-ready-in-Some.ensures bundle sets)
