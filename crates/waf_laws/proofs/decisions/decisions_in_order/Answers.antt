use Rattle.waf_laws.proofs.DecisionLaws.{not_before_itself, one_before, before_both}
use Rattle.waf_laws.proofs.decisions.decisions_in_order.Goals as goal

pub returns-clause-itself : goal.returns-clause-itself
returns-clause-itself c = not_before_itself

pub returns-clause-one : goal.returns-clause-one
returns-clause-one c = one_before

pub returns-clause-onward : goal.returns-clause-onward
returns-clause-onward c = before_both
