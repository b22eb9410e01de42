use Rattle.waf_laws.proofs.HoldsTruths.{holds_decided}
use Rattle.waf_laws.proofs.statements.statements_are_decided.Goals as goal

pub returns : goal.returns
returns c = holds_decided
