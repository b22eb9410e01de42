-- Fronts of the text of DIFFERENT, as they are written.
use Rattle.std.specs.Prelude.{ℕ, List, ◌++◌, codes}
use Rattle.waf_model.specs.Printed.{decision_name}
use Rattle.waf_model.specs.RequestText.{request_text}
use Rattle.waf_model.specs.declared.action.Decision.{Decision}
use Rattle.waf_model.specs.declared.request.Request.{Request}

-- up to the old decision
abbrev pub old_text : Decision → List ℕ
old_text old = codes "review DIFFERENT\n" ++ codes "old " ++ decision_name old

-- both decisions
abbrev pub decisions_text : Decision → Decision → List ℕ
decisions_text old new = old_text old ++ codes "\n" ++ codes "new " ++ decision_name new ++ codes "\n"

-- up to the request
abbrev pub up_to_request : Decision → Decision → Request → List ℕ
up_to_request old new request = decisions_text old new ++ codes "request " ++ request_text request ++ codes "\n"
