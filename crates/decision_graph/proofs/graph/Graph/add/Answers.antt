use Rattle.std.proofs.Common.{◌≡◌, refl, ap, ◌∙◌, reverse, cond, Some, ◌++◌, ◌∷◌, [], arith}
use Rattle.std.proofs.lemmas.List.{length-reverse}
use Rattle.indexmap.specs.IndexMap.{get}
use Rattle.decision_graph.specs.Nodes.{next_id, same_branch}
use Rattle.decision_graph.specs.Reduced.{MayFollow}
use Rattle.decision_graph.specs.declared.branch.Branch.{Branch}
use Rattle.decision_graph.proofs.StoredLemmas.{IsGraph-added}
use Rattle.decision_graph.proofs.graph.Graph.add.Goals as goal

pub invariant_of-self-2 : goal.invariant_of-self-2
invariant_of-self-2 c =
    let b : Branch = record { var = c.args.var; hi = c.args.hi; lo = c.args.lo } in
    let follows : MayFollow (reverse c.self.inside.nodes.items) b = rw c.self.view_is c.requires in
    let items = c.in_ok-push.ensures.items in
    let kept = c.in_ok-reserve.ensures.items in
    let updates = c.in_ok-insert.ensures.updates in
    let number : c.of-id.result ≡ next_id (reverse c.self.inside.nodes.items) = omega (arith, c.of-id.ensures, c.in-Ok.ensures, c.len.ensures, length-reverse c.self.inside.nodes.items) in
    IsGraph-added c.self.inside _ b c.self.invariant follows
    (items ∙ ap (λ l. l ++ b ∷ []) kept)
    (λ x. updates.0 x ∙ ap (λ k. cond (same_branch b x) (Some k) (get same_branch c.self.inside.ids x)) number)
    refl refl refl
