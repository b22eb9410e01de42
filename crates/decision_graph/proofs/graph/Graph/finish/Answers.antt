use Rattle.std.proofs.Common.{ap, subst, reverse}
use Rattle.std.specs.Map.{lookup}
use Rattle.indexmap.specs.IndexMap.{get}
use Rattle.decision_graph.specs.Joined.{joined, IsResult}
use Rattle.decision_graph.specs.Nodes.{IsNodeOf, value}
use Rattle.decision_graph.specs.Stored.{same_operands}
use Rattle.decision_graph.specs.declared.operation.Operation.TheVariants.{Both, Either, Differ}
use Rattle.decision_graph.proofs.JoinedLemmas.{result_of, AreResults-inserted, AreResults-unchanged}
use Rattle.decision_graph.proofs.graph.Graph.finish.Goals as goal

pub invariant_of-self : goal.invariant_of-self
invariant_of-self c =
    let kept : IsNodeOf c.args.self.now (joined Both (value c.args.self.now c.args.a) (value c.args.self.now c.args.b)) c.args.id = subst (λ operation. IsNodeOf c.args.self.now (joined operation (value c.args.self.now c.args.a) (value c.args.self.now c.args.b)) c.args.id) c.in-Both.is c.requires.result in
    let result : IsResult Both (reverse c.self.inside.nodes.items) c.of.result c.args.id = rw c.self.view_is (result_of Both c.args.self.now c.of.result c.args.a c.args.b c.args.id c.requires.ids.0 c.requires.ids.1 c.of.ensures.low c.of.ensures.high kept) in
    record {
      reduced = c.self.invariant.reduced;
      ids = c.self.invariant.ids;
      both = AreResults-inserted Both (reverse c.self.inside.nodes.items) (λ k. get same_operands c.self.inside.both k) (λ k. get same_operands c.insert.new.self k) c.of.result c.args.id c.in_ok-insert-in-Both.ensures.updates.0 result c.self.invariant.both;
      either = c.self.invariant.either;
      differ = c.self.invariant.differ;
    }

pub invariant_of-self-in_err-insert-in-Both : goal.invariant_of-self-in_err-insert-in-Both
invariant_of-self-in_err-insert-in-Both c =
    record {
      reduced = c.self.invariant.reduced;
      ids = c.self.invariant.ids;
      both = AreResults-unchanged Both (reverse c.self.inside.nodes.items) (λ k. get same_operands c.self.inside.both k) (λ k. get same_operands c.insert.new.self k) (λ q. ap (lookup (same_operands q)) c.in_err-insert-in-Both.ensures.err) c.self.invariant.both;
      either = c.self.invariant.either;
      differ = c.self.invariant.differ;
    }

pub invariant_of-self-in_ok-insert-in-Either : goal.invariant_of-self-in_ok-insert-in-Either
invariant_of-self-in_ok-insert-in-Either c =
    let kept : IsNodeOf c.args.self.now (joined Either (value c.args.self.now c.args.a) (value c.args.self.now c.args.b)) c.args.id = subst (λ operation. IsNodeOf c.args.self.now (joined operation (value c.args.self.now c.args.a) (value c.args.self.now c.args.b)) c.args.id) c.in-Either.is c.requires.result in
    let result : IsResult Either (reverse c.self.inside.nodes.items) c.of-in-Either.result c.args.id = rw c.self.view_is (result_of Either c.args.self.now c.of-in-Either.result c.args.a c.args.b c.args.id c.requires.ids.0 c.requires.ids.1 c.of-in-Either.ensures.low c.of-in-Either.ensures.high kept) in
    record {
      reduced = c.self.invariant.reduced;
      ids = c.self.invariant.ids;
      both = c.self.invariant.both;
      either = AreResults-inserted Either (reverse c.self.inside.nodes.items) (λ k. get same_operands c.self.inside.either k) (λ k. get same_operands c.insert-in-Either.new.self k) c.of-in-Either.result c.args.id c.in_ok-insert-in-Either.ensures.updates.0 result c.self.invariant.either;
      differ = c.self.invariant.differ;
    }

pub invariant_of-self-in_err-insert-in-Either : goal.invariant_of-self-in_err-insert-in-Either
invariant_of-self-in_err-insert-in-Either c =
    record {
      reduced = c.self.invariant.reduced;
      ids = c.self.invariant.ids;
      both = c.self.invariant.both;
      either = AreResults-unchanged Either (reverse c.self.inside.nodes.items) (λ k. get same_operands c.self.inside.either k) (λ k. get same_operands c.insert-in-Either.new.self k) (λ q. ap (lookup (same_operands q)) c.in_err-insert-in-Either.ensures.err) c.self.invariant.either;
      differ = c.self.invariant.differ;
    }

pub invariant_of-self-in_ok-insert-in-Differ : goal.invariant_of-self-in_ok-insert-in-Differ
invariant_of-self-in_ok-insert-in-Differ c =
    let kept : IsNodeOf c.args.self.now (joined Differ (value c.args.self.now c.args.a) (value c.args.self.now c.args.b)) c.args.id = subst (λ operation. IsNodeOf c.args.self.now (joined operation (value c.args.self.now c.args.a) (value c.args.self.now c.args.b)) c.args.id) c.in-Differ.is c.requires.result in
    let result : IsResult Differ (reverse c.self.inside.nodes.items) c.of-in-Differ.result c.args.id = rw c.self.view_is (result_of Differ c.args.self.now c.of-in-Differ.result c.args.a c.args.b c.args.id c.requires.ids.0 c.requires.ids.1 c.of-in-Differ.ensures.low c.of-in-Differ.ensures.high kept) in
    record {
      reduced = c.self.invariant.reduced;
      ids = c.self.invariant.ids;
      both = c.self.invariant.both;
      either = c.self.invariant.either;
      differ = AreResults-inserted Differ (reverse c.self.inside.nodes.items) (λ k. get same_operands c.self.inside.differ k) (λ k. get same_operands c.insert-in-Differ.new.self k) c.of-in-Differ.result c.args.id c.in_ok-insert-in-Differ.ensures.updates.0 result c.self.invariant.differ;
    }

pub invariant_of-self-in_err-insert-in-Differ : goal.invariant_of-self-in_err-insert-in-Differ
invariant_of-self-in_err-insert-in-Differ c =
    record {
      reduced = c.self.invariant.reduced;
      ids = c.self.invariant.ids;
      both = c.self.invariant.both;
      either = c.self.invariant.either;
      differ = AreResults-unchanged Differ (reverse c.self.inside.nodes.items) (λ k. get same_operands c.self.inside.differ k) (λ k. get same_operands c.insert-in-Differ.new.self k) (λ q. ap (lookup (same_operands q)) c.in_err-insert-in-Differ.ensures.err) c.self.invariant.differ;
    }
