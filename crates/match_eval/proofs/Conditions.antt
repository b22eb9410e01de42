-- The condition of a statement, and of a prepared statement, by the conditions of its parts.
use Rattle.std.proofs.Common.{◌≡◌, ◌↔◌, ℕ, List, Bool, Option, None, Some, Result, IfOk, IsTrue, map, option_map, sym, subst, ap, ◌∙◌}
use Rattle.std.specs.Borrow.{Bor}
use Rattle.match_eval.specs.Asked.{test_of}
use Rattle.match_eval.specs.Ready.{condition_of, prepared_step}
use Rattle.match_eval.specs.Tree.{IsMetIn}
use Rattle.match_eval.specs.declared.prepared.Prepared.{Prepared, Prepared-F, fold-roll-Prepared}
use Rattle.match_eval.specs.declared.prepared.Prepared.TheVariants.{Tested, Addressed, All, Any, Scoped, rolls-Tested, rolls-Addressed, rolls-All, rolls-Any, rolls-Not, rolls-Scoped}
use Rattle.match_eval.specs.declared.prepared.Prepared.TheVariants as prepared
use Rattle.match_eval.specs.declared.text_test.Asked.{Asked}
use Rattle.waf_model.specs.Holds.{Condition, tested, addressed, answered, both, opposite, all_of, any_of, scoped, condition_step, condition}
use Rattle.waf_model.specs.declared.address.Cidr.{Cidr}
use Rattle.waf_model.specs.declared.answers.Answers.{Answers}
use Rattle.waf_model.specs.declared.bundle.Bundle.{Bundle}
use Rattle.waf_model.specs.declared.context.Context.{Context}
use Rattle.waf_model.specs.declared.field.Field.{Field}
use Rattle.waf_model.specs.declared.matching.Forwarded.{Forwarded}
use Rattle.waf_model.specs.declared.request.Request.{Request}
use Rattle.waf_model.specs.declared.statement.Statement.{Statement, Statement-F, fold-roll-Statement}
use Rattle.waf_model.specs.declared.statement.Statement.TheVariants.{And, Or, Rate, rolls-And, rolls-Or, rolls-Rate}
use Rattle.waf_model.specs.declared.statement.Statement.TheVariants as statements
use Rattle.waf_model.specs.declared.transform.Transform.{Transform}

-- an answer for one condition is an answer for another that is the same
pub answers_same : {E : Type 0} (request : Request) (answers : Answers) (seen : List (List ℕ)) (context : Context) (result : Result Bool E) (whole part : Condition) → whole ≡ part
    → IfOk result (λ holds. IsTrue holds ↔ IsMetIn request answers seen context part) → IfOk result (λ holds. IsTrue holds ↔ IsMetIn request answers seen context whole)
answers_same request answers seen context result whole part same =
    subst (λ (one : Condition). IfOk result (λ holds. IsTrue holds ↔ IsMetIn request answers seen context one)) (sym same)

module _ (bundle : Bundle) where
  pub condition-And : (parts : List Statement) → condition bundle (And parts) ≡ all_of (map (condition bundle) parts)
  condition-And parts = ap (condition bundle) (sym (rolls-And parts)) ∙ fold-roll-Statement Condition (condition_step bundle) (Statement-F.And parts)

  pub condition-Or : (parts : List Statement) → condition bundle (Or parts) ≡ any_of (map (condition bundle) parts)
  condition-Or parts = ap (condition bundle) (sym (rolls-Or parts)) ∙ fold-roll-Statement Condition (condition_step bundle) (Statement-F.Or parts)

  pub condition-Not : (part : Statement) → condition bundle (statements.Not part) ≡ opposite (condition bundle part)
  condition-Not part =
      ap (condition bundle) (sym (statements.rolls-Not part)) ∙ fold-roll-Statement Condition (condition_step bundle) (Statement-F.Not part)

  pub condition-Rate : (key : List ℕ) (custom_keys : ℕ) (scope_down : Option Statement)
      → condition bundle (Rate key custom_keys scope_down) ≡ scoped (option_map (condition bundle) scope_down) (answered key)
  condition-Rate key custom_keys None =
      ap (condition bundle) (sym (rolls-Rate key custom_keys None)) ∙ fold-roll-Statement Condition (condition_step bundle) (Statement-F.Rate key custom_keys None)
  condition-Rate key custom_keys (Some scope) =
      ap (condition bundle) (sym (rolls-Rate key custom_keys (Some scope))) ∙ fold-roll-Statement Condition (condition_step bundle) (Statement-F.Rate key custom_keys (Some scope))

pub of-Tested : (asked : Asked) (field : Bor Field) (ts : Bor (List Transform)) → condition_of (Tested asked field ts) ≡ tested (test_of asked) field.now ts.now
of-Tested asked field ts = ap condition_of (sym (rolls-Tested asked field ts)) ∙ fold-roll-Prepared Condition prepared_step (Prepared-F.Tested asked field ts)

pub of-Addressed : (cover : Bor (List Cidr)) (forwarded : Bor (Option Forwarded)) → condition_of (Addressed cover forwarded) ≡ addressed cover.now forwarded.now
of-Addressed cover forwarded =
    ap condition_of (sym (rolls-Addressed cover forwarded)) ∙ fold-roll-Prepared Condition prepared_step (Prepared-F.Addressed cover forwarded)

pub of-All : (parts : List Prepared) → condition_of (All parts) ≡ all_of (map condition_of parts)
of-All parts = ap condition_of (sym (rolls-All parts)) ∙ fold-roll-Prepared Condition prepared_step (Prepared-F.All parts)

pub of-Any : (parts : List Prepared) → condition_of (Any parts) ≡ any_of (map condition_of parts)
of-Any parts = ap condition_of (sym (rolls-Any parts)) ∙ fold-roll-Prepared Condition prepared_step (Prepared-F.Any parts)

pub of-Not : (part : Prepared) → condition_of (prepared.Not part) ≡ opposite (condition_of part)
of-Not part = ap condition_of (sym (rolls-Not part)) ∙ fold-roll-Prepared Condition prepared_step (Prepared-F.Not part)

pub of-Scoped : (scope : Prepared) (key : Bor (List ℕ)) → condition_of (Scoped scope key) ≡ both (condition_of scope) (answered key.now)
of-Scoped scope key = ap condition_of (sym (rolls-Scoped scope key)) ∙ fold-roll-Prepared Condition prepared_step (Prepared-F.Scoped scope key)
