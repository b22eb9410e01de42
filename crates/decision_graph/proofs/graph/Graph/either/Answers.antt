use Rattle.decision_graph.proofs.PartLemmas.{makes_none}
use Rattle.decision_graph.proofs.graph.Graph.either.Goals as goal

pub returns-clause-there : goal.returns-clause-there
returns-clause-there c = makes_none c.args.self.now c.apply.new.self _ c.args.meter.now c.apply.new.meter c.apply.ensures.reduced c.apply.ensures.grows
