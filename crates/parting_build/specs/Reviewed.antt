-- What the answer of a review means (this project's own).
use Rattle.std.specs.Prelude.{◌≤◌}
use Rattle.waf_model.specs.Alike.{Alike, Parts}
use Rattle.waf_model.specs.Within.{header_bytes}
use Rattle.waf_model.specs.declared.action.Decision.{Decision}
use Rattle.waf_model.specs.declared.answers.Answers.{Answers}
use Rattle.waf_model.specs.declared.bundle.Bundle.{Bundle}
use Rattle.waf_model.specs.declared.request.Request.{Request}
use Rattle.parting_build.specs.declared.verdict.Review.{Review}
use Rattle.parting_build.specs.declared.verdict.Review.TheVariants.{Equal, Different, Undecided}

-- no request that parts the two has fewer bytes of header names and values
abbrev pub HasLeastHeaderBytes : Bundle → Bundle → Request → Type 0
HasLeastHeaderBytes old new request = (other : Request) (answers : Answers) (d e : Decision) → Parts old new other answers d e → header_bytes request.headers ≤ header_bytes other.headers

-- EQUAL says that the two decide alike; DIFFERENT comes with a request and answers that part them, with the least header
-- bytes; and, as long as a review makes no nodes, nothing is left undecided
abbrev pub IsReview : Bundle → Bundle → Review → Type 0
IsReview old new Equal = Alike old new
IsReview old new (Different parting) = Parts old new parting.request parting.answers parting.old parting.new × HasLeastHeaderBytes old new parting.request
IsReview old new (Undecided made) = ⊥
