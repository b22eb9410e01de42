-- How many bytes of a body a web ACL inspects (API types `AssociationConfig` and
-- `RequestBodyAssociatedResourceTypeConfig`; that the least of several limits counts, and 8,192 where there is none, is this
-- project's own).
use Rattle.std.specs.Prelude.{ℕ, List, [], ◌∷◌, ◌++◌, codes, fold, min, if◌then◌else◌, Option, Some, None, Result, Ok, Err}
use Rattle.serde_json.specs.Data.{Data, Members, no_members, member}
use Rattle.serde_json.specs.Find.{as_object}
use Rattle.json_view.specs.Words.{word_at}
use Rattle.waf_model.specs.Gives.{◌>>=◌}
use Rattle.waf_model.specs.Json.{is_null, member_path, optional_at}
use Rattle.waf_model.specs.declared.read_fault.ReadFault.{ReadFault}
use Rattle.waf_model.specs.declared.read_fault.ReadFault.TheVariants as faults

-- ---- one limit

-- the words of `DefaultSizeInspectionLimit`, in bytes
abbrev pub size_words : List (List ℕ × ℕ)
size_words = (codes "KB_16", 16384) ∷ (codes "KB_32", 32768) ∷ (codes "KB_48", 49152) ∷ (codes "KB_64", 65536) ∷ []

-- the limit for one type of resource
abbrev pub limit_of : Data → List ℕ → Result ℕ ReadFault
limit_of d path = word_at d (codes "DefaultSizeInspectionLimit") size_words path

-- ---- the limits that are set

-- the limit that a member sets; one that is null sets none
abbrev pub limit_if_set : Data → List ℕ → Result (List ℕ) ReadFault
limit_if_set d path = if is_null d then Ok [] else (limit_of d path >>= λ limit. Ok (limit ∷ []))

-- the limits that these members set, in the order of their names
abbrev pub limits_of : Members → List ℕ → Result (List ℕ) ReadFault
limits_of no_members path = Ok []
limits_of (member name d ms) path = do
  here ← limit_if_set d (member_path path name)
  others ← limits_of ms path
  Ok (here ++ others)

-- the limits that a value sets, which must be an object
abbrev pub limits_in : Option Members → List ℕ → Result (List ℕ) ReadFault
limits_in None path = Err (faults.Shape path)
limits_in (Some ms) path = limits_of ms path

-- `RequestBody`
abbrev pub request_body_of : Option Data → List ℕ → Result (List ℕ) ReadFault
request_body_of None path = Ok []
request_body_of (Some found) path = limits_in (as_object found) path

-- `RequestBody` of an association, of which other members are unread
unfoldable pub association_of : Data → List ℕ → Result (List ℕ) ReadFault
association_of d path = optional_at d (codes "RequestBody") path >>= λ found. request_body_of found (member_path path (codes "RequestBody"))

-- `AssociationConfig`
abbrev pub optional_association : Option Data → List ℕ → Result (List ℕ) ReadFault
optional_association None path = Ok []
optional_association (Some found) path = association_of found path

-- the limits that a web ACL sets
unfoldable pub limits_at : Data → List ℕ → Result (List ℕ) ReadFault
limits_at d path = optional_at d (codes "AssociationConfig") path >>= λ found. optional_association found (member_path path (codes "AssociationConfig"))

-- ---- the least of them

-- the limit of a web ACL that sets none, in bytes
abbrev pub default_body_limit : ℕ
default_body_limit = 8192

-- the least of the limits, or the default where there is none
abbrev pub least_limit : List ℕ → ℕ
least_limit [] = default_body_limit
least_limit (limit ∷ limits) = fold min limit limits

-- the least of the limits that were read; a fault stays
abbrev pub least_of_read : Result (List ℕ) ReadFault → Result ℕ ReadFault
least_of_read read = read >>= λ limits. Ok (least_limit limits)

-- the limit of a web ACL
unfoldable pub body_limit_at : Data → List ℕ → Result ℕ ReadFault
body_limit_at d path = least_of_read (limits_at d path)
