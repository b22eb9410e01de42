use Rattle.acl_eval.specs.Preparation.{IsPreparedFor}
use Rattle.acl_eval.specs.Walk.{IsWalked}
use Rattle.acl_eval.proofs.Evaluated.{steps_before}
use Rattle.waf_model.specs.WholeBundle.{IsWhole}
use Rattle.acl_eval.proofs.prepared.Prepared.evaluate.Given as goal

-- where the web ACL is prepared, no rule so far decides, and the labels are those that were seen
abbrev pub invariant-loop-ready : goal.invariant-loop-ready
invariant-loop-ready l =
    IsPreparedFor l.self.bundle.now l.self → IsWhole l.self.bundle.now → IsWalked l.self.bundle.now l.request l.answers (steps_before l.self.bundle.now l.ready-index) l.labels
