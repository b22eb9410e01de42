use Rattle.std.proofs.Common.{ltb, arith, rules}
use Rattle.std.proofs.lemmas.Bool.{lt-ltb, ltb-true, ltb-false}
use Rattle.std.proofs.lemmas.List.Sorted.{IsPartitionPoint-from_clause}
use Rattle.byte_automata.specs.declared.edge.Edge.{Edge}
use Rattle.byte_automata.proofs.Rows.{edge-found, last-rises}
use Rattle.byte_automata.proofs.row.place_of.Goals as goal

pub returns : goal.returns
returns c =
    let point = IsPartitionPoint-from_clause (λ (e : Edge). ltb e.last c.args.byte) c.args.edges.now c.partition_point.result c.partition_point.ensures.partitioned
    (λ i j d le lt e. lt-ltb _ c.args.byte (omega (arith, last-rises 0 c.args.edges.now c.requires i j d le lt, ltb-true _ c.args.byte e)))
    (λ a r q k. search rules) in
    edge-found c.args.edges.now c.args.byte c.partition_point.result (omega (arith, c.ranges.byte.fits)) c.requires c.partition_point.ensures.bound
    (λ k d lo hi. ltb-true _ _ (point.0 k d lo hi)) (λ k d lo hi. ltb-false _ _ (point.1 k d lo hi))
