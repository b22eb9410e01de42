use Rattle.std.proofs.Common.{refl, sym, ap, ◌∙◌}
use Rattle.waf_model.specs.declared.outcome.Outcome.{Outcome}
use Rattle.impact_replay.proofs.revisions.decision_of.Goals as goal

pub returns : goal.returns
returns c = λ bundle prepared whole.
    let found = c.in_ok-outcome.ensures bundle prepared whole in
    record {
      decides = (c.in_ok-outcome.outcome, found, refl);
      alone = λ other decides.
          sym decides.2 ∙ ap (λ (outcome : Outcome). outcome.decision) (c.one_outcome.ensures bundle _ _ decides.0 c.in_ok-outcome.outcome decides.1 found);
    }
