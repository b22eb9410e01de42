use Rattle.std.proofs.Common.{sym, ap, ◌∙◌}
use Rattle.waf_model.specs.declared.outcome.Outcome.{Outcome}
use Rattle.parting_build.proofs.candidate.decision_at.Goals as goal

pub returns-clause-alone : goal.returns-clause-alone
returns-clause-alone c = λ _ decides.
    let found = rw (c.in_ok-request.ensures, c.none_answered-answers.ensures) at c.in_ok-outcome.ensures in
    let same = c.one_outcome.ensures c.args.bundle.now _ _ decides.0 c.in_ok-outcome.outcome decides.1 found in
    sym decides.2 ∙ ap (λ (outcome : Outcome). outcome.decision) same
