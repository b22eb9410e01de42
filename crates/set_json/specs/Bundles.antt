-- How a bundle is read (this project's own; the output of the API call GetWebACL is one): its members in this order, and
-- then whether all that is referred to is there.
use Rattle.std.specs.Prelude.{ℕ, List, [], ◌∷◌, codes, Option, Some, None, Result, Ok, Err}
use Rattle.serde_json.specs.Data.{Data}
use Rattle.json_view.specs.Words.{known, meaning}
use Rattle.statement_json.specs.declared.encoding.Encoding.{Encoding}
use Rattle.statement_json.specs.declared.encoding.Encoding.TheVariants as encodings
use Rattle.waf_model.specs.Gives.{◌>>=◌}
use Rattle.waf_model.specs.Json.{member_at, member_path, optional_at, parsed, text_at}
use Rattle.waf_model.specs.declared.bundle.Bundle.{Bundle}
use Rattle.waf_model.specs.declared.read_fault.ReadFault.{ReadFault}
use Rattle.waf_model.specs.declared.read_fault.ReadFault.TheVariants as faults
use Rattle.waf_model.specs.declared.sets.RegexSet.{RegexSet}
use Rattle.waf_model.specs.declared.web_acl.Acl.{Acl}
use Rattle.acl_json.specs.WebAcls.{acl_of}
use Rattle.set_json.specs.Lists.{groups_at, ip_sets_at, managed_capacities_at, regex_sets_at}
use Rattle.set_json.specs.Missing.{missing_of}

-- the words of `SearchStringEncoding`: search strings are in base64, or stand as they are
abbrev pub encoding_words : List (List ℕ × Encoding)
encoding_words = (codes "BASE64", encodings.Base64) ∷ (codes "TEXT", encodings.Plain) ∷ []

abbrev pub encoding_of : Option Data → List ℕ → Result Encoding ReadFault
encoding_of None path = Ok encodings.Base64
encoding_of (Some found) path = text_at found path >>= λ text. known (meaning encoding_words text) path

-- `SearchStringEncoding`; without it they are in base64
unfoldable pub encoding_at : Data → List ℕ → Result Encoding ReadFault
encoding_at d path = optional_at d (codes "SearchStringEncoding") path >>= λ found. encoding_of found (member_path path (codes "SearchStringEncoding"))

-- `WebACL`, among these pattern sets, after so many statements
unfoldable pub acl_at : List RegexSet → Encoding → Data → List ℕ → ℕ → Result (Acl × ℕ) ReadFault
acl_at sets encoding d path seen = member_at d (codes "WebACL") path >>= λ found. acl_of sets encoding found (member_path path (codes "WebACL")) seen

-- the members of a bundle, before what is referred to is looked up
unfoldable pub members_of : Data → List ℕ → Result Bundle ReadFault
members_of d path = do
  encoding ← encoding_at d path
  ip_sets ← ip_sets_at d path
  regex_sets ← regex_sets_at d path
  managed ← managed_capacities_at d path
  groups ← groups_at regex_sets encoding d path 0
  acl ← acl_at regex_sets encoding d path groups.1
  Ok (record { acl = acl.0; groups = groups.0; ip_sets = ip_sets; regex_sets = regex_sets; managed = managed })

-- a bundle that misses nothing, or else its first missing reference
abbrev pub nothing_missing : Bundle → Option (List ℕ) → Result Bundle ReadFault
nothing_missing bundle None = Ok bundle
nothing_missing bundle (Some arn) = Err (faults.Missing arn)

-- the bundle that a value is
abbrev pub bundle_of : Data → List ℕ → Result Bundle ReadFault
bundle_of d path = members_of d path >>= λ bundle. nothing_missing bundle (missing_of bundle)

-- the bundle of a JSON text
abbrev pub top_bundle : Option Data → Result Bundle ReadFault
top_bundle None = Err faults.Json
top_bundle (Some d) = bundle_of d (codes "$")

-- what the bytes of a bundle are read as
unfoldable pub bundle_reading : List ℕ → Result Bundle ReadFault
bundle_reading bytes = top_bundle (parsed bytes)
