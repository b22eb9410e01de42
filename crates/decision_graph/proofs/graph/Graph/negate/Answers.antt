use Rattle.decision_graph.proofs.PartLemmas.{makes_none}
use Rattle.decision_graph.proofs.StepLemmas.{IsNodeOf-negated, Grows-negated, StopsFull-negated}
use Rattle.decision_graph.proofs.graph.Graph.negate.Goals as goal

pub returns-clause-ok : goal.returns-clause-ok
returns-clause-ok c = IsNodeOf-negated c.args.self.now c.apply.new.self c.args.a c.yes.result c.apply.result c.yes.ensures c.apply.ensures.ok

pub returns-clause-grows : goal.returns-clause-grows
returns-clause-grows c = Grows-negated c.args.self.now c.apply.new.self c.args.a c.yes.result c.args.meter.now c.apply.new.meter c.yes.ensures c.apply.ensures.grows

pub returns-clause-stops : goal.returns-clause-stops
returns-clause-stops c = λ e. StopsFull-negated c.args.self.now c.apply.new.self c.args.a c.yes.result c.args.meter.now c.apply.new.meter c.yes.ensures c.apply.ensures.grows (c.apply.ensures.stops e)

pub returns-clause-there : goal.returns-clause-there
returns-clause-there c = makes_none c.args.self.now c.apply.new.self _ c.args.meter.now c.apply.new.meter c.apply.ensures.reduced (Grows-negated c.args.self.now c.apply.new.self c.args.a c.yes.result c.args.meter.now c.apply.new.meter c.yes.ensures c.apply.ensures.grows)
