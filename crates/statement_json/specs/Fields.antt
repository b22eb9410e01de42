-- How a field to match is read (API type `FieldToMatch`): the part of a request that it names.
use Rattle.std.specs.Prelude.{ℕ, List, [], ◌∷◌, codes, Bool, true, ◌==◌, if◌then◌else◌, Option, Some, None, Result, Ok, Err}
use Rattle.std.specs.List.{list_all}
use Rattle.serde_json.specs.Data.{Data}
use Rattle.serde_json.specs.Find.{get}
use Rattle.json_view.specs.Words.{ensured, is_there, text_member_at, known, meaning, word_at, each_of}
use Rattle.waf_model.specs.Gives.{◌>>=◌}
use Rattle.waf_model.specs.Json.{present, member_path, optional_at, member_at, list_at, text_at, member_count}
use Rattle.waf_model.specs.Within.{is_token}
use Rattle.waf_model.specs.declared.field.Field.{Field}
use Rattle.waf_model.specs.declared.field.Field.TheVariants as fields
use Rattle.waf_model.specs.declared.field.Filter.{Filter}
use Rattle.waf_model.specs.declared.field.Filter.TheVariants as filters
use Rattle.waf_model.specs.declared.field.Oversize.{Oversize}
use Rattle.waf_model.specs.declared.field.Oversize.TheVariants as oversizes
use Rattle.waf_model.specs.declared.field.Part.{Part}
use Rattle.waf_model.specs.declared.field.Part.TheVariants as parts
use Rattle.waf_model.specs.declared.read_fault.ReadFault.{ReadFault}
use Rattle.waf_model.specs.declared.read_fault.ReadFault.TheVariants as faults
use Rattle.statement_json.specs.FieldNames.{field_name_of, member_of}
use Rattle.statement_json.specs.declared.field_kind.FieldKind.{FieldKind}
use Rattle.statement_json.specs.declared.field_kind.FieldKind.TheVariants.{Known, JsonBody, Other}
use Rattle.statement_json.specs.declared.field_name.FieldName.{FieldName}
use Rattle.statement_json.specs.declared.field_name.FieldName.TheVariants as names

-- the words of `OversizeHandling`
abbrev pub oversize_words : List (List ℕ × Oversize)
oversize_words = (codes "CONTINUE", oversizes.Continue) ∷ (codes "MATCH", oversizes.Match) ∷ (codes "NO_MATCH", oversizes.NoMatch) ∷ []

-- the words of `MatchScope`
abbrev pub part_words : List (List ℕ × Part)
part_words = (codes "ALL", parts.Both) ∷ (codes "KEY", parts.Key) ∷ (codes "VALUE", parts.Value) ∷ []

-- what is done with a part that is larger than is inspected; CONTINUE where it isn't said (AWS WAF Developer Guide,
-- "Oversize web request components")
abbrev pub oversize_of : Option Data → List ℕ → Result Oversize ReadFault
oversize_of None path = Ok oversizes.Continue
oversize_of (Some found) path = text_at found path >>= λ text. known (meaning oversize_words text) path

-- `OversizeHandling`
unfoldable pub oversize_at : Data → List ℕ → Result Oversize ReadFault
oversize_at d path = optional_at d (codes "OversizeHandling") path >>= λ found. oversize_of found (member_path path (codes "OversizeHandling"))

-- a list of names
abbrev pub names_of : Data → List ℕ → Result (List (List ℕ)) ReadFault
names_of d path = list_at d path >>= λ all. each_of text_at all path

-- the names that are excluded, where they are there; another member isn't allowed
abbrev pub excluded_of : Option Data → List ℕ → List ℕ → Result Filter ReadFault
excluded_of None name path = Err (faults.Shape path)
excluded_of (Some found) name path = names_of found (member_path path name) >>= λ names. Ok (filters.Excluded names)

-- the names that are included, where they are there, or else those that are excluded
abbrev pub named_of : Option Data → Data → List ℕ → List ℕ → List ℕ → Result Filter ReadFault
named_of None d included excluded path = excluded_of (present (get excluded d)) excluded path
named_of (Some found) d included excluded path = names_of found (member_path path included) >>= λ names. Ok (filters.Included names)

-- a match pattern has exactly one member: `All`, or the names that are included, or those that are excluded
abbrev pub filter_of : List ℕ → List ℕ → Data → List ℕ → Result Filter ReadFault
filter_of included excluded d path = do
  one ← ensured (member_count d == 1) (faults.Shape path)
  if is_there (codes "All") d then Ok filters.All else named_of (present (get included d)) d included excluded path

-- `MatchPattern`, with these names of its members
abbrev pub filter_at : List ℕ → List ℕ → Data → List ℕ → Result Filter ReadFault
filter_at included excluded d path = member_at d (codes "MatchPattern") path >>= λ found. filter_of included excluded found (member_path path (codes "MatchPattern"))

-- the names of a filter are tokens
abbrev pub has_tokens : Filter → Bool
has_tokens filters.All = true
has_tokens (filters.Included names) = list_all is_token names
has_tokens (filters.Excluded names) = list_all is_token names

-- a field that is evaluated only where the test is true
abbrev pub known_if : Bool → Field → FieldKind
known_if evaluated field = if evaluated then Known field else Other

-- `SingleHeader`: a name; no request has a header whose name is no token
unfoldable pub header_of : Data → List ℕ → Result FieldKind ReadFault
header_of d path = text_member_at d (codes "Name") path >>= λ name. Ok (known_if (is_token name) (fields.Header name))

-- `SingleQueryArgument`: a name
unfoldable pub argument_of : Data → List ℕ → Result FieldKind ReadFault
argument_of d path = text_member_at d (codes "Name") path >>= λ name. Ok (Known (fields.Argument name))

-- `Body`
unfoldable pub body_of : Data → List ℕ → Result FieldKind ReadFault
body_of d path = oversize_at d path >>= λ oversize. Ok (Known (fields.Body oversize))

-- `Headers`
unfoldable pub headers_of : Data → List ℕ → Result FieldKind ReadFault
headers_of d path = do
  filter ← filter_at (codes "IncludedHeaders") (codes "ExcludedHeaders") d path
  part ← word_at d (codes "MatchScope") part_words path
  oversize ← oversize_at d path
  Ok (known_if (has_tokens filter) (fields.Headers filter part oversize))

-- `Cookies`
unfoldable pub cookies_of : Data → List ℕ → Result FieldKind ReadFault
cookies_of d path = do
  filter ← filter_at (codes "IncludedCookies") (codes "ExcludedCookies") d path
  part ← word_at d (codes "MatchScope") part_words path
  oversize ← oversize_at d path
  Ok (Known (fields.Cookies filter part oversize))

-- the field that a member of that name is, by its value; the value of the first five is unread
abbrev pub field_by : FieldName → Data → List ℕ → Result FieldKind ReadFault
field_by names.UriPath found path = Ok (Known fields.UriPath)
field_by names.QueryString found path = Ok (Known fields.QueryString)
field_by names.Method found path = Ok (Known fields.Method)
field_by names.AllQueryArguments found path = Ok (Known fields.AllArguments)
field_by names.JsonBody found path = Ok JsonBody
field_by names.SingleHeader found path = header_of found path
field_by names.SingleQueryArgument found path = argument_of found path
field_by names.Body found path = body_of found path
field_by names.Headers found path = headers_of found path
field_by names.Cookies found path = cookies_of found path

-- the field of that name; another one isn't evaluated
abbrev pub field_named : Option FieldName → Data → List ℕ → Result FieldKind ReadFault
field_named None d path = Ok Other
field_named (Some name) d path = member_at d (member_of name) path >>= λ found. field_by name found (member_path path (member_of name))

-- a field to match has exactly one member
unfoldable pub field_of : Data → List ℕ → Result FieldKind ReadFault
field_of d path = do
  one ← ensured (member_count d == 1) (faults.Shape path)
  field_named (field_name_of d) d path

-- `FieldToMatch`
unfoldable pub field_at : Data → List ℕ → Result FieldKind ReadFault
field_at d path = member_at d (codes "FieldToMatch") path >>= λ found. field_of found (member_path path (codes "FieldToMatch"))
