use Rattle.json_text.proofs.Pushed.{pushed}
use Rattle.request_parts.proofs.writing.push_encoded.Goals as goal

pub returns : goal.returns
returns c = pushed _ _ _ _ _ c.in_ok-push.ensures.ok c.in_ok-push_base64.ensures
