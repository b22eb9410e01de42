use Rattle.acl_eval.proofs.Readied.{scope_holds}
use Rattle.waf_model.specs.LabelMatch.{IsAmong}
use Rattle.acl_eval.proofs.trying.is_in_scope.Goals as goal

pub returns-in-Some : goal.returns-in-Some
returns-in-Some c = λ scope is.
    scope_holds c.args.case.bundle.now c.args.case.request.now c.args.case.answers.now (IsAmong c.args.labels.now) c.args.case.bundle.now.acl.namespace scope c.args.scope_down.now c.in-Some.ready
    c.holds.result c.in-Some.is is c.holds.ensures
