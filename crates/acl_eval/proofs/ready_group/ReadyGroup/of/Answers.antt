use Rattle.acl_eval.proofs.ready_group.ReadyGroup.of.Goals as goal

pub returns-clause-rules : goal.returns-clause-rules
returns-clause-rules c = λ bundle sets. rw c.as_slice.ensures at (c.in_ok-rules.ensures bundle sets)
