use Rattle.std.proofs.Common.{◌≡◌, arith}
use Rattle.decision_graph.specs.Nodes.{first_variable, no_variable}
use Rattle.decision_graph.proofs.NodeLemmas.{first_variable-constant}
use Rattle.decision_graph.proofs.StepLemmas.{IsSplit-unchanged}
use Rattle.decision_graph.proofs.graph.Graph.split.Goals.{in_default-branch-via-in_Some-branch+else-branch-var, in_default-branch-via-in_default-branch}
use Rattle.decision_graph.proofs.graph.Graph.split.Goals as goal

pub returns-in_default-branch : goal.returns-in_default-branch
returns-in_default-branch c =
    IsSplit-unchanged c.args.self.now c.args.var c.args.a c.requires.0 (elim c.in_default-branch.branch [
      | in_default-branch-via-in_Some-branch+else-branch-var w ↦
          let first : first_variable c.args.self.now c.args.a ≡ w.in_Some-branch.branch.var = w.in_Some-branch.ensures.test.first in
          omega (arith, w.if-branch-var.false)
      | in_default-branch-via-in_default-branch w ↦
          let none : first_variable c.args.self.now c.args.a ≡ no_variable = first_variable-constant c.args.self.now c.args.a w.in_default-branch.ensures.constant in
          omega arith
    ])
