use Rattle.std.proofs.Common.{sym, ap, ◌∙◌}
use Rattle.waf_model.specs.declared.rule.Rule.{Rule}
use Rattle.waf_model.specs.declared.rule.Top.TheVariants as tops
use Rattle.acl_eval.proofs.ready_top.ReadyBody.of.Goals as goal

pub returns-in_ok-ready-in-Plain : goal.returns-in_ok-ready-in-Plain
returns-in_ok-ready-in-Plain c = λ bundle sets.
    (c.in-Plain.is ∙ ap (λ (r : Rule). tops.Plain r) (sym c.in_ok-ready-in-Plain.ensures.rule), c.in_ok-ready-in-Plain.ensures.statement bundle sets)

pub returns-in_ok-scope_down-in-Managed : goal.returns-in_ok-scope_down-in-Managed
returns-in_ok-scope_down-in-Managed c = λ bundle sets. (c.in-Managed.is, c.in_ok-scope_down-in-Managed.ensures bundle sets)
