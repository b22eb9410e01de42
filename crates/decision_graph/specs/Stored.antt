-- What a graph holds (this project's own).
use Rattle.std.specs.Prelude.{◌≡◌, ◌&&◌, Bool, nat_eq, reverse}
use Rattle.indexmap.specs.IndexMap.{get}
use Rattle.decision_graph.specs.Joined.{AreResults}
use Rattle.decision_graph.specs.Nodes.{id_of, same_branch}
use Rattle.decision_graph.specs.Reduced.{IsReduced}
use Rattle.decision_graph.specs.declared.branch.Branch.{Branch}
use Rattle.decision_graph.specs.declared.graph.Graph.TheInside.{Inside}
use Rattle.decision_graph.specs.declared.operands.Operands.{Operands}
use Rattle.decision_graph.specs.declared.operation.Operation.TheVariants.{Both, Either, Differ}

-- both are of the same nodes
abbrev pub same_operands : Operands → Operands → Bool
same_operands x y = nat_eq x.low y.low && nat_eq x.high y.high

-- the nodes make a reduced graph, the table of numbers gives each node's number, and each finished result is right
pub record IsGraph (graph : Inside) : Type 0 where
  pub reduced : IsReduced (reverse graph.nodes.items)
  pub ids : (b : Branch) → get same_branch graph.ids b ≡ id_of (reverse graph.nodes.items) b
  pub both : AreResults Both (reverse graph.nodes.items) (λ k. get same_operands graph.both k)
  pub either : AreResults Either (reverse graph.nodes.items) (λ k. get same_operands graph.either k)
  pub differ : AreResults Differ (reverse graph.nodes.items) (λ k. get same_operands graph.differ k)
