use Rattle.std.proofs.Common.{inl, inr}
use Rattle.std.proofs.lemmas.Result.{IfOk-weaker}
use Rattle.acl_eval.proofs.OneStep.{comes_to_end, goes_on}
use Rattle.waf_model.specs.Steps.{managed_step}
use Rattle.acl_eval.proofs.walking.walked_managed.Goals as goal

pub returns-in-None : goal.returns-in-None
returns-in-None c = λ prepared.
    goes_on c.args.case.bundle.now c.args.case.request.now c.args.case.answers.now (managed_step c.args.case.bundle.now c.args.top.now c.args.use_of.now) c.args.labels.now c.tried_managed.new.labels c.in_ok-tried_managed.field-0
    (c.in_ok-tried_managed.ensures prepared) (inr c.in-None.is)

pub returns-then-use_of : goal.returns-then-use_of
returns-then-use_of c = λ prepared.
    goes_on c.args.case.bundle.now c.args.case.request.now c.args.case.answers.now (managed_step c.args.case.bundle.now c.args.top.now c.args.use_of.now) c.args.labels.now c.tried_managed.new.labels c.in_ok-tried_managed.field-0
    (c.in_ok-tried_managed.ensures prepared) (inl c.if-use_of.true)

pub returns-else-use_of : goal.returns-else-use_of
returns-else-use_of c = λ prepared.
    let tried = rw c.in-Some.is at (c.in_ok-tried_managed.ensures prepared) in
    IfOk-weaker c.ended_at.result _ _ (λ end is.
    comes_to_end c.args.case.bundle.now c.args.case.request.now c.args.case.answers.now (managed_step c.args.case.bundle.now c.args.top.now c.args.use_of.now) c.args.labels.now c.tried_managed.new.labels c.in-Some.decision end
    tried c.if-use_of.false is) c.ended_at.ensures
