use Rattle.waf_laws.proofs.OutcomeTruths.{fires_decided, are_true}
use Rattle.waf_laws.proofs.firing.firing_is_decided.Goals as goal

pub returns-clause-fires : goal.returns-clause-fires
returns-clause-fires c = fires_decided

pub returns-clause-seen : goal.returns-clause-seen
returns-clause-seen c bundle request answers before = (are_true bundle request answers before).labels

pub returns-clause-ended : goal.returns-clause-ended
returns-clause-ended c bundle request answers before = (are_true bundle request answers before).ended
