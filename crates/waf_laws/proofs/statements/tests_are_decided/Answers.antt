use Rattle.waf_laws.proofs.TestTruths.{passes_decided}
use Rattle.waf_laws.proofs.statements.tests_are_decided.Goals as goal

pub returns : goal.returns
returns c = passes_decided
