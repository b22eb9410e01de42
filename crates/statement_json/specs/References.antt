-- How references to address sets and matches of labels are read (API types `IPSetReferenceStatement` and
-- `LabelMatchStatement`).
use Rattle.std.specs.Prelude.{ℕ, List, [], ◌∷◌, codes, Bool, true, false, Option, Some, None, Result, Ok}
use Rattle.serde_json.specs.Data.{Data}
use Rattle.json_view.specs.Words.{label_at, text_member_at, word_at}
use Rattle.waf_model.specs.Gives.{◌>>=◌}
use Rattle.waf_model.specs.Json.{member_path, optional_at}
use Rattle.waf_model.specs.declared.matching.Forwarded.{Forwarded}
use Rattle.waf_model.specs.declared.matching.ForwardedPosition.{ForwardedPosition}
use Rattle.waf_model.specs.declared.matching.ForwardedPosition.TheVariants as positions
use Rattle.waf_model.specs.declared.matching.LabelScope.{LabelScope}
use Rattle.waf_model.specs.declared.matching.LabelScope.TheVariants as scopes
use Rattle.waf_model.specs.declared.read_fault.ReadFault.{ReadFault}
use Rattle.waf_model.specs.declared.statement.Statement.{Statement}
use Rattle.waf_model.specs.declared.statement.Statement.TheVariants as statements
use Rattle.statement_json.specs.Matches.{arn_at}

-- ---- addresses

-- the words of `FallbackBehavior`
abbrev pub fallback_words : List (List ℕ × Bool)
fallback_words = (codes "MATCH", true) ∷ (codes "NO_MATCH", false) ∷ []

-- the words of `Position`
abbrev pub forwarded_words : List (List ℕ × ForwardedPosition)
forwarded_words = (codes "FIRST", positions.First) ∷ (codes "LAST", positions.Last) ∷ (codes "ANY", positions.Any) ∷ []

-- a forwarded address: `HeaderName`, `FallbackBehavior` and `Position`
unfoldable pub forwarded_of : Data → List ℕ → Result Forwarded ReadFault
forwarded_of d path = do
  header ← text_member_at d (codes "HeaderName") path
  fallback ← word_at d (codes "FallbackBehavior") fallback_words path
  position ← word_at d (codes "Position") forwarded_words path
  Ok (record { header = header; fallback = fallback; position = position })

abbrev pub optional_forwarded : Option Data → List ℕ → Result (Option Forwarded) ReadFault
optional_forwarded None path = Ok None
optional_forwarded (Some found) path = forwarded_of found path >>= λ forwarded. Ok (Some forwarded)

-- `IPSetForwardedIPConfig`
unfoldable pub forwarded_at : Data → List ℕ → Result (Option Forwarded) ReadFault
forwarded_at d path = optional_at d (codes "IPSetForwardedIPConfig") path >>= λ found. optional_forwarded found (member_path path (codes "IPSetForwardedIPConfig"))

-- `IPSetReferenceStatement`
unfoldable pub ip_set_of : Data → List ℕ → Result Statement ReadFault
ip_set_of d path = do
  arn ← arn_at d path
  forwarded ← forwarded_at d path
  Ok (statements.Ip arn forwarded)

-- ---- labels

-- the words of `Scope`
abbrev pub scope_words : List (List ℕ × LabelScope)
scope_words = (codes "LABEL", scopes.Label) ∷ (codes "NAMESPACE", scopes.Namespace) ∷ []

-- `LabelMatchStatement`
unfoldable pub label_match_of : Data → List ℕ → Result Statement ReadFault
label_match_of d path = do
  scope ← word_at d (codes "Scope") scope_words path
  key ← label_at d (codes "Key") path
  Ok (statements.Label scope key)
