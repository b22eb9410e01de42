use Rattle.waf_laws.proofs.OutcomeTruths.{only_decision}
use Rattle.waf_laws.proofs.outcome.one_decision.Goals as goal

pub returns : goal.returns
returns c = only_decision
