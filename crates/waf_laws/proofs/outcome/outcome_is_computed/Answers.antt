use Rattle.waf_laws.proofs.OutcomeTruths.{only_outcome}
use Rattle.waf_laws.proofs.outcome.outcome_is_computed.Goals as goal

pub returns : goal.returns
returns c = only_outcome
