use Rattle.std.proofs.Common.{ℕ, List, [], ◌∷◌, ◌++◌, ap, ◌∙◌}
use Rattle.waf_model.specs.RequestText.{group_text}
use Rattle.ip_text.proofs.Pushed.{eight_groups}
use Rattle.ip_text.proofs.writing.push_ipv6.Goals as goal

pub returns : goal.returns
returns c =
    let group = group_text c.args.address in
    let front = ap (λ (t : List ℕ). t ++ 58 ∷ []) c.in_ok-push_four_groups.ensures in
    c.in_ok-push_four_groups-2.ensures
    ∙ ap (λ (t : List ℕ). t ++ group 3 ++ 58 ∷ [] ++ group 2 ++ 58 ∷ [] ++ group 1 ++ 58 ∷ [] ++ group 0) (c.in_ok-push.ensures.ok ∙ front)
    ∙ eight_groups c.args.text.now (group 7) (group 6) (group 5) (group 4) (group 3) (group 2) (group 1) (group 0)
