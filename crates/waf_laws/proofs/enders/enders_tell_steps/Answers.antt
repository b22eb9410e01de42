use Rattle.waf_laws.proofs.EnderLaws.{enders_differ}
use Rattle.waf_laws.proofs.enders.enders_tell_steps.Goals as goal

pub returns : goal.returns
returns c = enders_differ
