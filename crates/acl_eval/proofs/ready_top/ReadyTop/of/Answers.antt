use Rattle.acl_eval.proofs.ready_top.ReadyTop.of.Goals as goal

pub returns-clause-body : goal.returns-clause-body
returns-clause-body c = λ bundle sets. c.in_ok-body.ensures bundle sets
