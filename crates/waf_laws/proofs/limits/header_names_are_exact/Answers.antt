use Rattle.waf_laws.proofs.WithinLaws.{exact_name}
use Rattle.waf_laws.proofs.limits.header_names_are_exact.Goals as goal

pub returns : goal.returns
returns c = exact_name
