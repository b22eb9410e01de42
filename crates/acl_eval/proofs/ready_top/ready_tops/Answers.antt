use Rattle.acl_eval.specs.Preparation.{IsReadyTop}
use Rattle.acl_eval.specs.declared.ready_top.ReadyTop.{ReadyTop}
use Rattle.acl_eval.proofs.Readied.{all_ready, one_more_ready}
use Rattle.acl_eval.proofs.ready_top.ready_tops.Goals as goal

pub loop-top-preserved : goal.loop-top-preserved
loop-top-preserved c = λ bundle sets. rw c.in_ok-push.ensures.items (
    one_more_ready (λ (ready : ReadyTop). ready.top.now) (IsReadyTop bundle) c.args.tops.now c.loop-top.top-index c.top-item.result c.loop-top.readies.items c.in_ok-of.field-0
    c.loop-top-test.true c.top-item.is (c.loop-top.invariant bundle sets) c.in_ok-of.ensures.top (c.in_ok-of.ensures.body bundle sets))

pub returns : goal.returns
returns c = λ bundle sets.
    all_ready (λ (ready : ReadyTop). ready.top.now) (IsReadyTop bundle) c.args.tops.now c.loop-top.top-index c.loop-top.readies.items c.loop-top-test.false
    (c.loop-top.invariant bundle sets)
