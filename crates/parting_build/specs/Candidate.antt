-- The request that is tried for a path: a plain GET from 0.0.0.0, without query, headers and body (this project's own).
use Rattle.std.specs.Prelude.{ℕ, ◌≡◌, List, [], codes}
use Rattle.waf_model.specs.Alike.{Decides, no_answers}
use Rattle.waf_model.specs.declared.action.Decision.{Decision}
use Rattle.waf_model.specs.declared.address.Address.TheVariants.{V4}
use Rattle.waf_model.specs.declared.bundle.Bundle.{Bundle}
use Rattle.waf_model.specs.declared.request.Request.{Request}

abbrev pub plain_get : List ℕ → Request
plain_get path = record { method = codes "GET"; path = path; query = []; headers = []; body = []; address = V4 0 }

-- the two decide alike on the request that is tried for the path
abbrev pub AlikeAt : Bundle → Bundle → List ℕ → Type 0
AlikeAt old new path = (d e : Decision) → Decides old (plain_get path) no_answers d → Decides new (plain_get path) no_answers e → d ≡ e
