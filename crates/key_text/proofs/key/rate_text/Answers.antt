use Rattle.std.proofs.Common.{ℕ, List, [], ◌∷◌, ◌++◌, Bool, false, Some, codes, ap, ◌∙◌}
use Rattle.key_text.specs.Edited.{written_member}
use Rattle.key_text.proofs.key.rate_text.Goals as goal

pub returns : goal.returns
returns c =
    let closed : Bool → List ℕ = λ _. 125 ∷ [] in
    let last : Bool → List ℕ = λ later. written_member later (codes "Statement") (Some c.args.statement.now) closed in
    let after : Bool → List ℕ = λ later. written_member later (codes "Rule") (Some c.args.rule.now) last in
    c.in_ok-push.ensures.ok
    ∙ c.in_ok-push_member.ensures closed
    ∙ c.in_ok-later-2.ensures last
    ∙ c.in_ok-later.ensures after
    ∙ ap (λ text. text ++ written_member false (codes "Group") (Some c.args.group.now) after) c.in_ok-key.ensures
