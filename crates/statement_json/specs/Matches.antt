-- How the statements that test a part of a request are read (API types `ByteMatchStatement`, `SizeConstraintStatement`,
-- `RegexMatchStatement`, `RegexPatternSetReferenceStatement`, `SqliMatchStatement` and `XssMatchStatement`). One whose
-- field or transformation isn't evaluated is an answer under its key.
use Rattle.std.specs.Prelude.{ℕ, List, [], ◌∷◌, codes, length, Bool, true, false, nat_lt, if◌then◌else◌, Option, Some, None, Result, Ok, Err}
use Rattle.std.specs.Str.{bytes_eq}
use Rattle.base64.specs.Engines.{standard}
use Rattle.base64.specs.GeneralPurpose.{decoded_of}
use Rattle.serde_json.specs.Data.{Data}
use Rattle.serde_json.specs.Written.{compact_text, has_float}
use Rattle.json_view.specs.Words.{text_member_at, optional_text_at, whole_member_at, word_at}
use Rattle.key_text.specs.Keys.{with_patterns, with_search}
use Rattle.pattern_read.specs.Spelled.{pattern_spelled}
use Rattle.waf_model.specs.Cost.{match_base, size_base, regex_base, pattern_set_base, sql_injection_base, cross_site_base, with_extras}
use Rattle.waf_model.specs.Gives.{◌>>=◌}
use Rattle.waf_model.specs.Json.{member_path}
use Rattle.waf_model.specs.References.{patterns_of}
use Rattle.waf_model.specs.RequestText.{base64_text}
use Rattle.waf_model.specs.declared.field.Field.{Field}
use Rattle.waf_model.specs.declared.field.Field.TheVariants as fields
use Rattle.waf_model.specs.declared.matching.Compare.{Compare}
use Rattle.waf_model.specs.declared.matching.Compare.TheVariants as compares
use Rattle.waf_model.specs.declared.matching.Position.{Position}
use Rattle.waf_model.specs.declared.matching.Position.TheVariants as positions
use Rattle.waf_model.specs.declared.pattern.Pattern.{Pattern}
use Rattle.waf_model.specs.declared.read_fault.ReadFault.{ReadFault}
use Rattle.waf_model.specs.declared.read_fault.ReadFault.TheVariants as faults
use Rattle.waf_model.specs.declared.sets.RegexSet.{RegexSet}
use Rattle.waf_model.specs.declared.statement.Statement.{Statement}
use Rattle.waf_model.specs.declared.statement.Statement.TheVariants as statements
use Rattle.waf_model.specs.declared.transform.Transform.{Transform}
use Rattle.statement_json.specs.Fields.{field_at}
use Rattle.statement_json.specs.Transforms.{transforms_at, in_order, charged}
use Rattle.statement_json.specs.declared.encoding.Encoding.{Encoding}
use Rattle.statement_json.specs.declared.encoding.Encoding.TheVariants as encodings
use Rattle.statement_json.specs.declared.field_kind.FieldKind.{FieldKind}
use Rattle.statement_json.specs.declared.field_kind.FieldKind.TheVariants as field_kinds
use Rattle.statement_json.specs.declared.listed.Listed.{Listed}
use Rattle.statement_json.specs.declared.target.Target.{Target}

-- ---- answers and targets

-- An opaque statement: its truth is an answer under the compact JSON text of that object, which must not hold a number
-- that isn't whole.
abbrev pub opaque : Data → Option ℕ → Option (List ℕ) → List ℕ → Result Statement ReadFault
opaque keyed cost arn path = if has_float keyed then Err (faults.Number path) else Ok (statements.Opaque (compact_text keyed) cost arn)

abbrev pub targeted : Field → Option (List Transform) → Option Target
targeted field None = None
targeted field (Some transforms) = Some (record { field = field; transforms = transforms })

-- the field and the transformations in the order of application, where all of them are evaluated
abbrev pub target_of : FieldKind → List Listed → Option Target
target_of (field_kinds.Known field) listed = targeted field (in_order listed)
target_of field_kinds.JsonBody listed = None
target_of field_kinds.Other listed = None

-- what a test of that base costs on a field
abbrev pub cost_on : ℕ → FieldKind → ℕ → ℕ
cost_on base (field_kinds.Known fields.AllArguments) charged = with_extras base false true charged
cost_on base (field_kinds.Known field) charged = with_extras base false false charged
cost_on base field_kinds.JsonBody charged = with_extras base true false charged
cost_on base field_kinds.Other charged = with_extras base false false charged

-- what a test of that base costs on a field with these transformations
abbrev pub cost_of : ℕ → FieldKind → List Listed → ℕ
cost_of base field listed = cost_on base field (charged listed)

-- ---- byte matches

-- a search string has at most so many bytes (this project's own)
abbrev pub longest_search : ℕ
longest_search = 8192

-- a search string that isn't too long
abbrev pub fitting_search : List ℕ → List ℕ → Result (List ℕ) ReadFault
fitting_search bytes path = if nat_lt longest_search (length bytes) then Err (faults.Limit path longest_search) else Ok bytes

-- the decoded bytes, where the text is canonical base64
abbrev pub decoded_search : Option (List ℕ) → List ℕ → Result (List ℕ) ReadFault
decoded_search None path = Err (faults.Base64 path)
decoded_search (Some bytes) path = fitting_search bytes path

-- the bytes of a search string: canonical base64 of the standard alphabet (RFC 4648, 4), or the text itself
abbrev pub search_of : Encoding → List ℕ → List ℕ → Result (List ℕ) ReadFault
search_of encodings.Base64 text path = decoded_search (decoded_of standard text) path
search_of encodings.Plain text path = fitting_search text path

-- `SearchString`
unfoldable pub search_at : Encoding → Data → List ℕ → Result (List ℕ) ReadFault
search_at encoding d path = text_member_at d (codes "SearchString") path >>= λ text. search_of encoding text (member_path path (codes "SearchString"))

-- the words of `PositionalConstraint`
abbrev pub position_words : List (List ℕ × Position)
position_words =
    (codes "EXACTLY", positions.Exactly) ∷ (codes "STARTS_WITH", positions.Starts) ∷ (codes "ENDS_WITH", positions.Ends)
    ∷ (codes "CONTAINS", positions.Contains) ∷ (codes "CONTAINS_WORD", positions.Word) ∷ []

-- `PositionalConstraint`
unfoldable pub position_at : Data → List ℕ → Result Position ReadFault
position_at d path = word_at d (codes "PositionalConstraint") position_words path

-- the object that a byte match has its key of: its search string stands in base64 there
abbrev pub keyed_match : Encoding → List ℕ → Data → Data → Data
keyed_match encodings.Base64 search found d = d
keyed_match encodings.Plain search found d = with_search (base64_text search) found d

abbrev pub byte_match_on : Option Target → List ℕ → Position → Data → ℕ → List ℕ → Result Statement ReadFault
byte_match_on None search position keyed cost path = opaque keyed (Some cost) None path
byte_match_on (Some target) search position keyed cost path = Ok (statements.ByteMatch search target.field target.transforms position)

-- `ByteMatchStatement`, whose value at `at` is `found`, of the statement `d` at `path`
unfoldable pub byte_match_of : Encoding → Data → Data → List ℕ → List ℕ → Result Statement ReadFault
byte_match_of encoding d found path at = do
  search ← search_at encoding found at
  field ← field_at found at
  listed ← transforms_at found at
  position ← position_at found at
  byte_match_on (target_of field listed) search position (keyed_match encoding search found d) (cost_of (match_base position) field listed) path

-- ---- sizes

-- the words of `ComparisonOperator`
abbrev pub compare_words : List (List ℕ × Compare)
compare_words =
    (codes "EQ", compares.Eq) ∷ (codes "NE", compares.Ne) ∷ (codes "LE", compares.Le) ∷ (codes "LT", compares.Lt)
    ∷ (codes "GE", compares.Ge) ∷ (codes "GT", compares.Gt) ∷ []

-- `ComparisonOperator`
unfoldable pub compare_at : Data → List ℕ → Result Compare ReadFault
compare_at d path = word_at d (codes "ComparisonOperator") compare_words path

-- `Size`, in bytes
unfoldable pub size_at : Data → List ℕ → Result ℕ ReadFault
size_at d path = whole_member_at d (codes "Size") 0 9223372036854775807 path

abbrev pub size_on : Option Target → Compare → ℕ → Data → ℕ → List ℕ → Result Statement ReadFault
size_on None op size d cost path = opaque d (Some cost) None path
size_on (Some target) op size d cost path = Ok (statements.Size op size target.field target.transforms)

-- `SizeConstraintStatement`
unfoldable pub size_of : Data → Data → List ℕ → List ℕ → Result Statement ReadFault
size_of d found path at = do
  field ← field_at found at
  op ← compare_at found at
  size ← size_at found at
  listed ← transforms_at found at
  size_on (target_of field listed) op size d (cost_of size_base field listed) path

-- ---- patterns

-- the text of a pattern has at most so many bytes (this project's own)
abbrev pub longest_pattern : ℕ
longest_pattern = 4096

-- a pattern's text that isn't too long
abbrev pub fitting_pattern : List ℕ → List ℕ → Result (List ℕ) ReadFault
fitting_pattern text path = if nat_lt longest_pattern (length text) then Err (faults.Limit path longest_pattern) else Ok text

-- `RegexString`
unfoldable pub regex_at : Data → List ℕ → Result (List ℕ) ReadFault
regex_at d path = text_member_at d (codes "RegexString") path >>= λ text. fitting_pattern text (member_path path (codes "RegexString"))

-- a pattern outside the subset makes its statement opaque
abbrev pub regex_on : Option Target → Option Pattern → Data → ℕ → List ℕ → Result Statement ReadFault
regex_on None pattern d cost path = opaque d (Some cost) None path
regex_on (Some target) None d cost path = opaque d (Some cost) None path
regex_on (Some target) (Some pattern) d cost path = Ok (statements.Regex pattern target.field target.transforms)

-- `RegexMatchStatement`
unfoldable pub regex_of : Data → Data → List ℕ → List ℕ → Result Statement ReadFault
regex_of d found path at = do
  text ← regex_at found at
  field ← field_at found at
  listed ← transforms_at found at
  regex_on (target_of field listed) (pattern_spelled text) d (cost_of regex_base field listed) path

-- `ARN`
unfoldable pub arn_at : Data → List ℕ → Result (List ℕ) ReadFault
arn_at d path = text_member_at d (codes "ARN") path

-- The object that a reference to a pattern set has its key of: where the bundle has the set, its patterns stand beside
-- the reference.
abbrev pub keyed_reference : Option RegexSet → Data → Data
keyed_reference None d = d
keyed_reference (Some set) d = with_patterns set.texts d

-- a text of the set is outside the subset
abbrev pub is_outside : Option RegexSet → Bool
is_outside None = false
is_outside (Some set) = set.outside

-- a reference to that pattern set that is an answer; the statement must not hold a number that isn't whole
abbrev pub opaque_reference : Option RegexSet → List ℕ → Data → ℕ → List ℕ → Result Statement ReadFault
opaque_reference set arn d cost path =
    if has_float d then Err (faults.Number path) else Ok (statements.Opaque (compact_text (keyed_reference set d)) (Some cost) (Some arn))

-- the compact JSON text of a statement, which must not hold a number that isn't whole
abbrev pub whole_text : Data → List ℕ → Result (List ℕ) ReadFault
whole_text d path = if has_float d then Err (faults.Number path) else Ok (compact_text d)

-- a reference to that pattern set that is evaluated
abbrev pub evaluated_reference : Target → List ℕ → Data → List ℕ → Result Statement ReadFault
evaluated_reference target arn d path = whole_text d path >>= λ source. Ok (statements.PatternSet arn target.field target.transforms source)

-- a set with a text outside the subset makes each statement that refers to it an answer
abbrev pub pattern_set_on : Option Target → Option RegexSet → List ℕ → Data → ℕ → List ℕ → Result Statement ReadFault
pattern_set_on None set arn d cost path = opaque_reference set arn d cost path
pattern_set_on (Some target) set arn d cost path =
    if is_outside set then opaque_reference set arn d cost path else evaluated_reference target arn d path

-- `RegexPatternSetReferenceStatement`, among the pattern sets of the bundle
unfoldable pub pattern_set_of : List RegexSet → Data → Data → List ℕ → List ℕ → Result Statement ReadFault
pattern_set_of sets d found path at = do
  arn ← arn_at found at
  field ← field_at found at
  listed ← transforms_at found at
  pattern_set_on (target_of field listed) (patterns_of sets arn) arn d (cost_of pattern_set_base field listed) path

-- ---- detectors, which are always answers

-- whether `SensitivityLevel` is HIGH
abbrev pub is_high : Option (List ℕ) → Bool
is_high None = false
is_high (Some level) = bytes_eq level (codes "HIGH")

-- what a test for SQL injection costs at its `SensitivityLevel`
unfoldable pub sql_base_at : Data → List ℕ → Result ℕ ReadFault
sql_base_at d path = optional_text_at d (codes "SensitivityLevel") path >>= λ level. Ok (sql_injection_base (is_high level))

-- `SqliMatchStatement`
unfoldable pub sql_injection_of : Data → Data → List ℕ → List ℕ → Result Statement ReadFault
sql_injection_of d found path at = do
  field ← field_at found at
  listed ← transforms_at found at
  base ← sql_base_at found at
  opaque d (Some (cost_of base field listed)) None path

-- `XssMatchStatement`
unfoldable pub cross_site_of : Data → Data → List ℕ → List ℕ → Result Statement ReadFault
cross_site_of d found path at = do
  field ← field_at found at
  listed ← transforms_at found at
  opaque d (Some (cost_of cross_site_base field listed)) None path
