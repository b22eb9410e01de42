use Rattle.std.proofs.Common.{◌≡◌, sym, ◌∙◌, rules}
use Rattle.parting_build.proofs.candidate.parting_at.Goals as goal

pub returns-then-eq-clause-none : goal.returns-then-eq-clause-none
returns-then-eq-clause-none c = λ _ _ d e old_decides new_decides.
    let same : c.in_ok-before.before ≡ c.in_ok-after.after = search rules in
    c.in_ok-before.ensures.alone d old_decides ∙ same ∙ sym (c.in_ok-after.ensures.alone e new_decides)
