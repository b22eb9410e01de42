use Rattle.impact_replay.proofs.OneImpact.{one_impact_is}
use Rattle.impact_replay.proofs.laws.one_impact.Goals as goal

pub returns : goal.returns
returns c = one_impact_is
