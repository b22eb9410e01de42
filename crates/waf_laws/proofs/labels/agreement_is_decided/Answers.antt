use Rattle.waf_laws.proofs.AgreementLaws.{agree_decided}
use Rattle.waf_laws.proofs.labels.agreement_is_decided.Goals as goal

pub returns : goal.returns
returns c = agree_decided
