use Rattle.std.proofs.Common.{inr, refl}
use Rattle.std.proofs.lemmas.Result.{IfOk-weaker}
use Rattle.acl_eval.proofs.OneStep.{comes_to_end, goes_on}
use Rattle.waf_model.specs.Steps.{plain_step}
use Rattle.acl_eval.proofs.walking.walked_plain.Goals as goal

pub returns-in-None : goal.returns-in-None
returns-in-None c = λ prepared.
    goes_on c.args.case.bundle.now c.args.case.request.now c.args.case.answers.now (plain_step c.args.case.bundle.now c.args.top.now c.args.ready.now.rule.now) c.args.labels.now c.tried_rule.new.labels c.in_ok-tried_rule.field-0
    (c.in_ok-tried_rule.ensures prepared) (inr c.in-None.is)

pub returns-in-Some : goal.returns-in-Some
returns-in-Some c = λ prepared.
    let tried = rw c.in-Some.is at (c.in_ok-tried_rule.ensures prepared) in
    IfOk-weaker c.ended_at.result _ _ (λ end is.
    comes_to_end c.args.case.bundle.now c.args.case.request.now c.args.case.answers.now (plain_step c.args.case.bundle.now c.args.top.now c.args.ready.now.rule.now) c.args.labels.now c.tried_rule.new.labels c.in-Some.decision end
    tried refl is) c.ended_at.ensures
