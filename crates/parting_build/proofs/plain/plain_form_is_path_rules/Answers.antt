use Rattle.parting_build.proofs.PlainForm.{plain_form_is}
use Rattle.parting_build.proofs.plain.plain_form_is_path_rules.Goals as goal

pub returns : goal.returns
returns c = plain_form_is
