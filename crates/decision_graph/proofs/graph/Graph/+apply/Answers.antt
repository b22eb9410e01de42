use Rattle.std.proofs.Common.{rules}
use Rattle.decision_graph.proofs.GrowLemmas.{Grows-unchanged}
use Rattle.decision_graph.proofs.StepLemmas.{grows_hi, stops_hi, grows_lo, stops_lo, node_variables, grows_node, stops_node, result_is, result_then}
use Rattle.decision_graph.proofs.graph.Graph.+apply.Goals as goal

pub returns-in-Some-clause-grows : goal.returns-in-Some-clause-grows
returns-in-Some-clause-grows t c = Grows-unchanged _ c.args.self.now c.args.meter.now c.in-Some.ensures.reduced

pub returns-in_err-hi-clause-grows : goal.returns-in_err-hi-clause-grows
returns-in_err-hi-clause-grows t c = grows_hi c.args.operation c.args.self.now c.common_variable-var.result c.args.a c.args.b c.split-a_hi.result.0 c.split-a_hi.result.1 c.split-b_hi.result.0 c.split-b_hi.result.1 c.known.ensures.reduced c.split-a_hi.ensures c.split-b_hi.ensures c.apply.new.self c.args.meter.now c.apply.new.meter c.apply.ensures.grows

pub returns-in_err-hi-clause-stops : goal.returns-in_err-hi-clause-stops
returns-in_err-hi-clause-stops t c = λ e. stops_hi c.args.operation c.args.self.now c.common_variable-var.result c.args.a c.args.b c.split-a_hi.result.0 c.split-a_hi.result.1 c.split-b_hi.result.0 c.split-b_hi.result.1 c.known.ensures.reduced c.split-a_hi.ensures c.split-b_hi.ensures c.apply.new.self c.args.meter.now c.apply.new.meter c.apply.ensures.grows (c.apply.ensures.stops (search rules))

pub returns-in_err-lo-clause-grows : goal.returns-in_err-lo-clause-grows
returns-in_err-lo-clause-grows t c = grows_lo c.args.operation c.args.self.now c.common_variable-var.result c.args.a c.args.b c.split-a_hi.result.0 c.split-a_hi.result.1 c.split-b_hi.result.0 c.split-b_hi.result.1 c.known.ensures.reduced c.split-a_hi.ensures c.split-b_hi.ensures c.apply.new.self c.args.meter.now c.apply.new.meter c.apply.ensures.grows c.apply-2.new.self c.apply-2.new.meter c.apply-2.ensures.grows

pub returns-in_err-lo-clause-stops : goal.returns-in_err-lo-clause-stops
returns-in_err-lo-clause-stops t c = λ e. stops_lo c.args.operation c.args.self.now c.common_variable-var.result c.args.a c.args.b c.split-a_hi.result.0 c.split-a_hi.result.1 c.split-b_hi.result.0 c.split-b_hi.result.1 c.known.ensures.reduced c.split-a_hi.ensures c.split-b_hi.ensures c.apply.new.self c.args.meter.now c.apply.new.meter c.apply.ensures.grows c.apply-2.new.self c.apply-2.new.meter c.apply-2.ensures.grows (c.apply-2.ensures.stops (search rules))

pub node-requires-clause-variables : goal.node-requires-clause-variables
node-requires-clause-variables t c = node_variables c.args.operation c.args.self.now c.common_variable-var.result c.args.a c.args.b c.split-a_hi.result.0 c.split-a_hi.result.1 c.split-b_hi.result.0 c.split-b_hi.result.1 c.known.ensures.reduced c.split-a_hi.ensures c.split-b_hi.ensures c.apply.new.self c.args.meter.now c.apply.new.meter c.apply.ensures.grows c.apply-2.new.self c.apply-2.new.meter c.apply-2.ensures.grows c.in_ok-hi.hi c.in_ok-lo.lo c.in_ok-hi.ensures.ok c.in_ok-lo.ensures.ok

pub returns-in_err-id-clause-grows : goal.returns-in_err-id-clause-grows
returns-in_err-id-clause-grows t c = grows_node c.args.operation c.args.self.now c.common_variable-var.result c.args.a c.args.b c.split-a_hi.result.0 c.split-a_hi.result.1 c.split-b_hi.result.0 c.split-b_hi.result.1 c.known.ensures.reduced c.split-a_hi.ensures c.split-b_hi.ensures c.apply.new.self c.args.meter.now c.apply.new.meter c.apply.ensures.grows c.apply-2.new.self c.apply-2.new.meter c.apply-2.ensures.grows c.in_ok-hi.hi c.in_ok-lo.lo c.in_ok-hi.ensures.ok c.in_ok-lo.ensures.ok c.node.new.self c.node.new.meter c.node.ensures.grows

pub returns-in_err-id-clause-stops : goal.returns-in_err-id-clause-stops
returns-in_err-id-clause-stops t c = λ e. stops_node c.args.operation c.args.self.now c.common_variable-var.result c.args.a c.args.b c.split-a_hi.result.0 c.split-a_hi.result.1 c.split-b_hi.result.0 c.split-b_hi.result.1 c.known.ensures.reduced c.split-a_hi.ensures c.split-b_hi.ensures c.apply.new.self c.args.meter.now c.apply.new.meter c.apply.ensures.grows c.apply-2.new.self c.apply-2.new.meter c.apply-2.ensures.grows c.in_ok-hi.hi c.in_ok-lo.lo c.in_ok-hi.ensures.ok c.in_ok-lo.ensures.ok c.node.new.self c.node.new.meter c.node.ensures.grows (c.node.ensures.stops (search rules))

pub finish-requires-clause-result : goal.finish-requires-clause-result
finish-requires-clause-result t c = result_then c.args.operation c.args.self.now c.common_variable-var.result c.args.a c.args.b c.split-a_hi.result.0 c.split-a_hi.result.1 c.split-b_hi.result.0 c.split-b_hi.result.1 c.known.ensures.reduced c.split-a_hi.ensures c.split-b_hi.ensures c.apply.new.self c.args.meter.now c.apply.new.meter c.apply.ensures.grows c.apply-2.new.self c.apply-2.new.meter c.apply-2.ensures.grows c.in_ok-hi.hi c.in_ok-lo.lo c.in_ok-hi.ensures.ok c.in_ok-lo.ensures.ok c.node.new.self c.node.new.meter c.node.ensures.grows c.in_ok-id.id c.requires.0 c.requires.1 c.in_ok-id.ensures.ok

pub returns-in_err-finish-clause-grows : goal.returns-in_err-finish-clause-grows
returns-in_err-finish-clause-grows t c = let same = c.in_err-finish.ensures.same in rw same (grows_node c.args.operation c.args.self.now c.common_variable-var.result c.args.a c.args.b c.split-a_hi.result.0 c.split-a_hi.result.1 c.split-b_hi.result.0 c.split-b_hi.result.1 c.known.ensures.reduced c.split-a_hi.ensures c.split-b_hi.ensures c.apply.new.self c.args.meter.now c.apply.new.meter c.apply.ensures.grows c.apply-2.new.self c.apply-2.new.meter c.apply-2.ensures.grows c.in_ok-hi.hi c.in_ok-lo.lo c.in_ok-hi.ensures.ok c.in_ok-lo.ensures.ok c.node.new.self c.node.new.meter c.node.ensures.grows)

pub returns-clause-ok : goal.returns-clause-ok
returns-clause-ok t c = let same = c.in_ok-finish.ensures.same in rw same (result_is c.args.operation c.args.self.now c.common_variable-var.result c.args.a c.args.b c.split-a_hi.result.0 c.split-a_hi.result.1 c.split-b_hi.result.0 c.split-b_hi.result.1 c.known.ensures.reduced c.split-a_hi.ensures c.split-b_hi.ensures c.apply.new.self c.args.meter.now c.apply.new.meter c.apply.ensures.grows c.apply-2.new.self c.apply-2.new.meter c.apply-2.ensures.grows c.in_ok-hi.hi c.in_ok-lo.lo c.in_ok-hi.ensures.ok c.in_ok-lo.ensures.ok c.node.new.self c.node.new.meter c.node.ensures.grows c.in_ok-id.id c.in_ok-id.ensures.ok)

pub returns-clause-grows : goal.returns-clause-grows
returns-clause-grows t c = let same = c.in_ok-finish.ensures.same in rw same (grows_node c.args.operation c.args.self.now c.common_variable-var.result c.args.a c.args.b c.split-a_hi.result.0 c.split-a_hi.result.1 c.split-b_hi.result.0 c.split-b_hi.result.1 c.known.ensures.reduced c.split-a_hi.ensures c.split-b_hi.ensures c.apply.new.self c.args.meter.now c.apply.new.meter c.apply.ensures.grows c.apply-2.new.self c.apply-2.new.meter c.apply-2.ensures.grows c.in_ok-hi.hi c.in_ok-lo.lo c.in_ok-hi.ensures.ok c.in_ok-lo.ensures.ok c.node.new.self c.node.new.meter c.node.ensures.grows)
