-- Where a condition is met by a request, as the code is given what it is looked at in.
use Rattle.std.specs.Prelude.{ℕ, List}
use Rattle.waf_model.specs.Holds.{Condition, IsMet}
use Rattle.waf_model.specs.LabelMatch.{IsAmong}
use Rattle.waf_model.specs.declared.answers.Answers.{Answers}
use Rattle.waf_model.specs.declared.context.Context.{Context}
use Rattle.waf_model.specs.declared.request.Request.{Request}

-- the condition is met, where these are the labels that were added before
abbrev pub IsMetIn : Request → Answers → List (List ℕ) → Context → Condition → Type 0
IsMetIn request answers seen context condition =
    IsMet request answers (IsAmong seen) context.namespace.now context.bundle.now.acl.body_limit condition
