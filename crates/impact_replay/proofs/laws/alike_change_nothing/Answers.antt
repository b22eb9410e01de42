use Rattle.impact_replay.proofs.Alike.{nothing_changed}
use Rattle.impact_replay.proofs.laws.alike_change_nothing.Goals as goal

pub returns : goal.returns
returns c = nothing_changed
