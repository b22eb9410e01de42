use Rattle.acl_eval.specs.Preparation.{IsReadyRule}
use Rattle.acl_eval.specs.declared.ready_rule.ReadyRule.{ReadyRule}
use Rattle.acl_eval.proofs.Readied.{all_ready, one_more_ready}
use Rattle.acl_eval.proofs.ready_rule.ready_rules.Goals as goal

pub loop-rule-preserved : goal.loop-rule-preserved
loop-rule-preserved c = λ bundle sets. rw c.in_ok-push.ensures.items (
    one_more_ready (λ (ready : ReadyRule). ready.rule.now) (IsReadyRule bundle) c.args.rules.now c.loop-rule.rule-index c.rule-item.result c.loop-rule.readies.items c.in_ok-of.field-0
    c.loop-rule-test.true c.rule-item.is (c.loop-rule.invariant bundle sets) c.in_ok-of.ensures.rule (c.in_ok-of.ensures.statement bundle sets))

pub returns : goal.returns
returns c = λ bundle sets.
    all_ready (λ (ready : ReadyRule). ready.rule.now) (IsReadyRule bundle) c.args.rules.now c.loop-rule.rule-index c.loop-rule.readies.items c.loop-rule-test.false
    (c.loop-rule.invariant bundle sets)
