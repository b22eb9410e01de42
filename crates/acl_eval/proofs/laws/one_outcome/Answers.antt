use Rattle.waf_laws.proofs.OneOutcome.{one_outcome_is}
use Rattle.acl_eval.proofs.laws.one_outcome.Goals as goal

pub returns : goal.returns
returns c = one_outcome_is
