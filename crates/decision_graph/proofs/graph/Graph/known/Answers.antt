use Rattle.std.proofs.Common.{◌∙◌, sym, subst, IfSome, List}
use Rattle.indexmap.specs.IndexMap.{get}
use Rattle.decision_graph.specs.Joined.{joined, AreResults}
use Rattle.decision_graph.specs.Nodes.{IsNodeOf, value}
use Rattle.decision_graph.specs.Stored.{same_operands}
use Rattle.decision_graph.specs.declared.branch.Branch.{Branch}
use Rattle.decision_graph.specs.declared.operation.Operation.{Operation}
use Rattle.decision_graph.specs.declared.operation.Operation.TheVariants.{Both, Either, Differ}
use Rattle.decision_graph.proofs.JoinedLemmas.{known_in_table}
use Rattle.decision_graph.proofs.graph.Graph.known.Goals as goal

pub returns-in-Both-clause-known : goal.returns-in-Both-clause-known
returns-in-Both-clause-known c =
    let nodes : List Branch = c.args.self.now in
    let results : AreResults Both nodes (λ k. get same_operands c.self.inside.both k) = rw (← c.self.view_is) c.self.invariant.both in
    let known = known_in_table Both nodes (λ k. get same_operands c.self.inside.both k) c.of-operands.result c.args.a c.args.b c.copied.result results c.of-operands.ensures.low c.of-operands.ensures.high (c.copied.ensures ∙ c.get.ensures.value) in
    let P : Operation → Type 0 = λ operation. IfSome c.copied.result (IsNodeOf nodes (joined operation (value nodes c.args.a) (value nodes c.args.b))) in
    subst P (sym c.in-Both.is) known

pub returns-in-Either-clause-known : goal.returns-in-Either-clause-known
returns-in-Either-clause-known c =
    let nodes : List Branch = c.args.self.now in
    let results : AreResults Either nodes (λ k. get same_operands c.self.inside.either k) = rw (← c.self.view_is) c.self.invariant.either in
    let known = known_in_table Either nodes (λ k. get same_operands c.self.inside.either k) c.of-operands.result c.args.a c.args.b c.copied-in-Either.result results c.of-operands.ensures.low c.of-operands.ensures.high (c.copied-in-Either.ensures ∙ c.get-in-Either.ensures.value) in
    let P : Operation → Type 0 = λ operation. IfSome c.copied-in-Either.result (IsNodeOf nodes (joined operation (value nodes c.args.a) (value nodes c.args.b))) in
    subst P (sym c.in-Either.is) known

pub returns-in-Differ-clause-known : goal.returns-in-Differ-clause-known
returns-in-Differ-clause-known c =
    let nodes : List Branch = c.args.self.now in
    let results : AreResults Differ nodes (λ k. get same_operands c.self.inside.differ k) = rw (← c.self.view_is) c.self.invariant.differ in
    let known = known_in_table Differ nodes (λ k. get same_operands c.self.inside.differ k) c.of-operands.result c.args.a c.args.b c.copied-in-Differ.result results c.of-operands.ensures.low c.of-operands.ensures.high (c.copied-in-Differ.ensures ∙ c.get-in-Differ.ensures.value) in
    let P : Operation → Type 0 = λ operation. IfSome c.copied-in-Differ.result (IsNodeOf nodes (joined operation (value nodes c.args.a) (value nodes c.args.b))) in
    subst P (sym c.in-Differ.is) known
