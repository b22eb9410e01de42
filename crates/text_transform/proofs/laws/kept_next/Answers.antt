use Rattle.text_transform.proofs.Kept.{kept_next as kept_next_proof}
use Rattle.text_transform.proofs.laws.kept_next.Goals as goal

pub returns : goal.returns
returns c = kept_next_proof
