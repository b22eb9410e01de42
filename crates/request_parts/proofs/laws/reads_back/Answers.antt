use Rattle.request_parts.proofs.ReadBack.{reads_back}
use Rattle.request_parts.proofs.laws.reads_back.Goals as goal

pub returns : goal.returns
returns c = reads_back
