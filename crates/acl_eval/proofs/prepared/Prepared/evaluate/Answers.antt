use Rattle.std.proofs.Common.{take_all}
use Rattle.acl_eval.proofs.Evaluated.{default_decides, rule_decides, rule_goes_on}
use Rattle.acl_eval.proofs.Readied.{of_own, top_at, tops_past}
use Rattle.waf_model.specs.Outcome.{IsOutcome}
use Rattle.waf_model.specs.declared.bundle.Bundle.{Bundle}
use Rattle.waf_model.specs.declared.outcome.Ender.TheVariants as enders
use Rattle.acl_eval.proofs.prepared.Prepared.evaluate.Goals as goal

pub loop-ready-preserved : goal.loop-ready-preserved
loop-ready-preserved c = λ prepared whole.
    let at = top_at c.args.self.now.bundle.now c.args.self.now c.loop-ready.ready-index c.ready-item.result prepared
    (rw c.as_slice-ready-items.ensures.value at c.loop-ready-test.true) (rw c.as_slice-ready-items.ensures.value at c.ready-item.is) in
    rule_goes_on c.args.self.now.bundle.now c.args.request.now c.args.answers.now c.loop-ready.ready-index c.ready-item.result.top.now c.loop-ready.labels c.walked_top.new.labels whole
    at.0 at.1 (c.loop-ready.invariant prepared whole)
    (rw c.in-None.is at (c.in_ok-walked_top.ensures (rw c.as_slice-groups.ensures.value prepared.groups) at.2))

pub returns-in-Some : goal.returns-in-Some
returns-in-Some c =
    of_own c.args.self.now
    (λ (bundle : Bundle). IsOutcome bundle c.args.request.now c.args.answers.now (record { decision = c.in-Some.end.decision; ender = c.in-Some.end.ender; labels = c.in_ok-sorted-in-Some.field-0 }))
    (λ prepared whole.
    let at = top_at c.args.self.now.bundle.now c.args.self.now c.loop-ready.ready-index c.ready-item.result prepared
    (rw c.as_slice-ready-items.ensures.value at c.loop-ready-test.true) (rw c.as_slice-ready-items.ensures.value at c.ready-item.is) in
    rw c.in_ok-sorted-in-Some.ensures.labels (
    rule_decides c.args.self.now.bundle.now c.args.request.now c.args.answers.now c.loop-ready.ready-index c.ready-item.result.top.now c.loop-ready.labels c.walked_top.new.labels c.in-Some.end whole
    at.0 at.1 (c.loop-ready.invariant prepared whole)
    (rw c.in-Some.is at (c.in_ok-walked_top.ensures (rw c.as_slice-groups.ensures.value prepared.groups) at.2)) c.sorted.ensures.ascend))

pub returns : goal.returns
returns c =
    of_own c.args.self.now
    (λ (bundle : Bundle). IsOutcome bundle c.args.request.now c.args.answers.now (record { decision = c.args.self.now.bundle.now.acl.default; ender = enders.Default; labels = c.in_ok-sorted.field-0 }))
    (λ prepared whole.
    let past = tops_past c.args.self.now.bundle.now c.args.self.now c.loop-ready.ready-index prepared (rw c.as_slice-ready-items.ensures.value at c.loop-ready-test.false) in
    rw c.in_ok-sorted.ensures.labels (
    default_decides c.args.self.now.bundle.now c.args.request.now c.args.answers.now c.loop-ready.labels
    (rw (take_all c.loop-ready.ready-index c.args.self.now.bundle.now.acl.rules past) at (c.loop-ready.invariant prepared whole)) c.sorted-2.ensures.ascend))
