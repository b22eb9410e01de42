use Rattle.std.proofs.Common.{sym, ap, ◌∙◌}
use Rattle.match_eval.specs.Ready.{condition_of}
use Rattle.match_eval.specs.declared.prepared.Prepared.{Prepared}
use Rattle.match_eval.proofs.Conditions.{answers_same, of-Tested, of-Addressed, of-Not, of-Scoped}
use Rattle.waf_model.specs.Holds.{answered, both, opposite}
use Rattle.match_eval.proofs.holding.+meet.Goals as goal

pub is_met-returns-in-Tested : goal.is_met-returns-in-Tested
is_met-returns-in-Tested t c =
    let s = c.in-Tested in
    answers_same c.args.request.now c.args.answers.now c.args.seen.now c.args.context.now c.field_holds.result _ _
    (ap condition_of s.is ∙ of-Tested s.asked s.field s.transforms) c.field_holds.ensures

pub is_met-returns-in-Addressed : goal.is_met-returns-in-Addressed
is_met-returns-in-Addressed t c =
    let s = c.in-Addressed in
    answers_same c.args.request.now c.args.answers.now c.args.seen.now c.args.context.now c.address_holds.result _ _
    (ap condition_of s.is ∙ of-Addressed s.cover s.forwarded) c.address_holds.ensures

pub is_met-returns-in-Not : goal.is_met-returns-in-Not
is_met-returns-in-Not t c =
    let s = c.in-Not in
    answers_same c.args.request.now c.args.answers.now c.args.seen.now c.args.context.now c.is_unmet.result _ _
    (ap condition_of s.is ∙ of-Not s.part ∙ ap (λ (part : Prepared). opposite (condition_of part)) (sym c.get.ensures)) c.is_unmet.ensures

pub is_met-returns-in-Scoped : goal.is_met-returns-in-Scoped
is_met-returns-in-Scoped t c =
    let s = c.in-Scoped in
    answers_same c.args.request.now c.args.answers.now c.args.seen.now c.args.context.now c.is_met_in_scope.result _ _
    (ap condition_of s.is ∙ of-Scoped s.scope s.key ∙ ap (λ (part : Prepared). both (condition_of part) (answered s.key.now)) (sym c.get-in-Scoped.ensures))
    c.is_met_in_scope.ensures
