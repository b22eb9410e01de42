-- Lemmas on what a graph holds.
use Rattle.std.proofs.Common.{◌≡◌, cond, sym, ap, ◌∙◌, subst, List, [], ◌∷◌, ◌++◌, Some, reverse}
use Rattle.std.proofs.lemmas.List.{reverse-append}
use Rattle.indexmap.specs.IndexMap.{get}
use Rattle.decision_graph.specs.Grows.{Keeps}
use Rattle.decision_graph.specs.Nodes.{next_id, id_of, same_branch}
use Rattle.decision_graph.specs.Reduced.{MayFollow, IsReduced}
use Rattle.decision_graph.specs.Stored.{IsGraph, same_operands}
use Rattle.decision_graph.specs.declared.branch.Branch.{Branch}
use Rattle.decision_graph.specs.declared.graph.Graph.TheInside.{Inside}
use Rattle.decision_graph.specs.declared.operation.Operation.TheVariants.{Both, Either, Differ}
use Rattle.decision_graph.proofs.GrowLemmas.{Keeps-newest}
use Rattle.decision_graph.proofs.JoinedLemmas.{AreResults-kept}

-- the graph with one node more
pub IsGraph-added : (old new : Inside) (b : Branch) → IsGraph old → MayFollow (reverse old.nodes.items) b → new.nodes.items ≡ old.nodes.items ++ b ∷ []
    → ((x : Branch) → get same_branch new.ids x ≡ cond (same_branch b x) (Some (next_id (reverse old.nodes.items))) (get same_branch old.ids x))
    → new.both ≡ old.both → new.either ≡ old.either → new.differ ≡ old.differ → IsGraph new
IsGraph-added old new b g f items ids both either differ =
    let older : List Branch = reverse old.nodes.items in
    let nodes : reverse new.nodes.items ≡ b ∷ older = ap reverse items ∙ reverse-append old.nodes.items (b ∷ []) in
    let keeps : Keeps older (b ∷ older) = Keeps-newest b older in
    let reduced : IsReduced (b ∷ older) = (f, g.reduced) in
    record {
      reduced = subst IsReduced (sym nodes) reduced;
      ids = λ x. ids x ∙ ap (λ r. cond (same_branch b x) (Some (next_id older)) r) (g.ids x) ∙ ap (λ l. id_of l x) (sym nodes);
      both = rw (nodes, both) (AreResults-kept Both older (b ∷ older) (λ k. get same_operands old.both k) keeps g.both);
      either = rw (nodes, either) (AreResults-kept Either older (b ∷ older) (λ k. get same_operands old.either k) keeps g.either);
      differ = rw (nodes, differ) (AreResults-kept Differ older (b ∷ older) (λ k. get same_operands old.differ k) keeps g.differ);
    }
