use Rattle.acl_eval.specs.Preparation.{IsReadyGroup}
use Rattle.acl_eval.specs.declared.ready_group.ReadyGroup.{ReadyGroup}
use Rattle.acl_eval.proofs.Readied.{all_ready, one_more_ready}
use Rattle.acl_eval.proofs.ready_group.ready_groups.Goals as goal

pub loop-group-preserved : goal.loop-group-preserved
loop-group-preserved c = λ bundle sets. rw c.in_ok-push.ensures.items (
    one_more_ready (λ (ready : ReadyGroup). ready.group.now) (IsReadyGroup bundle) c.args.groups.now c.loop-group.group-index c.group-item.result c.loop-group.readies.items c.in_ok-of.field-0
    c.loop-group-test.true c.group-item.is (c.loop-group.invariant bundle sets) c.in_ok-of.ensures.group (c.in_ok-of.ensures.rules bundle sets))

pub returns : goal.returns
returns c = λ bundle sets.
    all_ready (λ (ready : ReadyGroup). ready.group.now) (IsReadyGroup bundle) c.args.groups.now c.loop-group.group-index c.loop-group.readies.items c.loop-group-test.false
    (c.loop-group.invariant bundle sets)
