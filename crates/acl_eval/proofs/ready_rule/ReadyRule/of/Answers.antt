use Rattle.acl_eval.proofs.ready_rule.ReadyRule.of.Goals as goal

pub returns-clause-statement : goal.returns-clause-statement
returns-clause-statement c = λ bundle sets. c.in_ok-statement.ensures bundle sets
