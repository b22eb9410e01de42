use Rattle.waf_laws.proofs.WithinLaws.{not_oversized}
use Rattle.waf_laws.proofs.limits.nothing_is_oversized.Goals as goal

pub returns : goal.returns
returns c = not_oversized
