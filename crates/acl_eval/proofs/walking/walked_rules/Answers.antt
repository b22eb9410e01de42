use Rattle.std.proofs.lemmas.Result.{IfOk-weaker}
use Rattle.acl_eval.proofs.Grouped.{either_count, group_decides, group_goes_on, group_is_ended}
use Rattle.acl_eval.proofs.Readied.{rule_at}
use Rattle.acl_eval.proofs.walking.walked_rules.Goals as goal

pub loop-ready-preserved : goal.loop-ready-preserved
loop-ready-preserved c = λ prepared.
    let at = rule_at c.args.case.bundle.now c.args.group.now c.loop-ready.ready-index c.ready-item.result prepared
    (rw c.as_slice-ready-items.ensures.value at c.loop-ready-test.true) (rw c.as_slice-ready-items.ensures.value at c.ready-item.is) in
    group_goes_on c.args.case.bundle.now c.args.case.request.now c.args.case.answers.now c.args.top.now c.args.use_of.now c.args.group.now.group.now c.loop-ready.ready-index c.ready-item.result.rule.now
    c.args.labels.now c.loop-ready.labels c.tried_rule.new.labels at.0 at.1 (c.loop-ready.invariant prepared)
    (rw c.effective_action-action.ensures at (rw c.in-None.is at (c.in_ok-tried_rule.ensures at.2)))

pub returns-in-Some : goal.returns-in-Some
returns-in-Some c = λ prepared.
    let at = rule_at c.args.case.bundle.now c.args.group.now c.loop-ready.ready-index c.ready-item.result prepared
    (rw c.as_slice-ready-items.ensures.value at c.loop-ready-test.true) (rw c.as_slice-ready-items.ensures.value at c.ready-item.is) in
    let tried = rw c.effective_action-action.ensures at (rw c.in-Some.is at (c.in_ok-tried_rule.ensures at.2)) in
    either_count c.args.use_of.now.count
    (λ counts. IfOk-weaker c.ended_inside.result _ _ (λ end is. rw (is counts) (
    group_is_ended c.args.case.bundle.now c.args.case.request.now c.args.case.answers.now c.args.top.now c.args.use_of.now c.args.group.now.group.now c.loop-ready.ready-index c.ready-item.result.rule.now
    c.args.labels.now c.loop-ready.labels c.tried_rule.new.labels c.in-Some.decision at.0 at.1 (c.loop-ready.invariant prepared) tried counts)) c.ended_inside.ensures.counts)
    (λ whole. IfOk-weaker c.ended_inside.result _ _ (λ end is.
    group_decides c.args.case.bundle.now c.args.case.request.now c.args.case.answers.now c.args.top.now c.args.use_of.now c.args.group.now.group.now c.loop-ready.ready-index c.ready-item.result.rule.now
    c.args.labels.now c.loop-ready.labels c.tried_rule.new.labels c.in-Some.decision end at.0 at.1 (c.loop-ready.invariant prepared) tried whole (is whole)) c.ended_inside.ensures.ends)
