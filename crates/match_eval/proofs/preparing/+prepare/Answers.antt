use Rattle.std.proofs.Common.{Option, map, option_map, take_all, sym, ap, ◌∙◌, arith}
use Rattle.std.proofs.lemmas.Result.{IfOk-weaker}
use Rattle.match_eval.specs.Ready.{condition_of}
use Rattle.match_eval.proofs.Conditions.{condition-And, condition-Or, condition-Not, condition-Rate, of-All, of-Any, of-Not, of-Scoped}
use Rattle.match_eval.proofs.Joined.{same_more}
use Rattle.waf_model.specs.Holds.{Condition, all_of, any_of, answered, both, condition, opposite, scoped}
use Rattle.waf_model.specs.declared.statement.Statement.{Statement}
use Rattle.match_eval.proofs.preparing.+prepare.Goals as goal

pub all_prepared-loop-part-preserved : goal.all_prepared-loop-part-preserved
all_prepared-loop-part-preserved t c bundle are =
    same_more condition_of (condition bundle) c.loop-part.all c.push.new.self c.in_ok-prepare.field-0 c.args.parts.now c.loop-part.part-index c.part-item.result
    (omega arith) c.part-item.is c.in_ok-push.ensures.ok (c.in_ok-prepare.ensures bundle are) (c.loop-part.invariant bundle are)

pub all_prepared-returns : goal.all_prepared-returns
all_prepared-returns t c bundle are =
    c.loop-part.invariant bundle are ∙ ap (map (condition bundle)) (take_all c.loop-part.part-index c.args.parts.now (omega arith))

pub negated-returns : goal.negated-returns
negated-returns t c bundle are = of-Not c.in_ok-new.field-0 ∙ ap opposite (ap condition_of c.in_ok-new.ensures ∙ c.in_ok-part.ensures bundle are)

pub prepare-returns-in_ok-parts-in-And : goal.prepare-returns-in_ok-parts-in-And
prepare-returns-in_ok-parts-in-And t c bundle are =
    of-All c.in_ok-parts-in-And.parts
    ∙ ap all_of (c.in_ok-parts-in-And.ensures bundle are ∙ ap (map (condition bundle)) c.as_slice.ensures)
    ∙ sym (ap (condition bundle) c.in-And.is ∙ condition-And bundle c.in-And.parts)

pub prepare-returns-in_ok-parts-in-Or : goal.prepare-returns-in_ok-parts-in-Or
prepare-returns-in_ok-parts-in-Or t c bundle are =
    of-Any c.in_ok-parts-in-Or.parts
    ∙ ap any_of (c.in_ok-parts-in-Or.ensures bundle are ∙ ap (map (condition bundle)) c.as_slice-in-Or.ensures)
    ∙ sym (ap (condition bundle) c.in-Or.is ∙ condition-Or bundle c.in-Or.parts)

pub prepare-returns-in-Not : goal.prepare-returns-in-Not
prepare-returns-in-Not t c =
    IfOk-weaker c.negated.result _ _
    (λ all same bundle are. same bundle are ∙ ap (λ (part : Statement). opposite (condition bundle part)) c.get.ensures
    ∙ sym (ap (condition bundle) c.in-Not.is ∙ condition-Not bundle c.in-Not.part))
    c.negated.ensures

pub prepare-returns-in-Rate : goal.prepare-returns-in-Rate
prepare-returns-in-Rate t c =
    IfOk-weaker c.scoped.result _ _
    (λ all same bundle are. same bundle are ∙ sym (ap (condition bundle) c.in-Rate.is ∙ condition-Rate bundle c.in-Rate.key c.in-Rate.custom_keys c.in-Rate.scope_down))
    c.scoped.ensures

pub scoped-returns-in_ok-new-in-Some : goal.scoped-returns-in_ok-new-in-Some
scoped-returns-in_ok-new-in-Some t c bundle are =
    let key = answered c.args.key.now in
    of-Scoped c.in_ok-new-in-Some.field-0 c.args.key
    ∙ ap (λ (scope : Condition). both scope key) (ap condition_of c.in_ok-new-in-Some.ensures ∙ c.in_ok-scope-in-Some.ensures bundle are ∙ ap (condition bundle) c.get.ensures)
    ∙ sym (ap (λ (scope : Option Statement). scoped (option_map (condition bundle) scope) key) c.in-Some.is)
