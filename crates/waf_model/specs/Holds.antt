-- Where a statement holds of a request (AWS WAF Developer Guide, "Rule statements").
use Rattle.std.specs.Prelude.{ℕ, ◌⊎◌, List, [], ◌∷◌, Any, Bool, true, false, IsTrue, Option, Some, None}
use Rattle.std.specs.Option.{option_map_or}
use Rattle.waf_model.specs.Answered.{statement_answer}
use Rattle.waf_model.specs.ForwardedAddress.{AddressHolds}
use Rattle.waf_model.specs.LabelMatch.{label_holds}
use Rattle.waf_model.specs.Passes.{Passes, Test, search, size, patterns}
use Rattle.waf_model.specs.References.{addresses_of, patterns_of}
use Rattle.waf_model.specs.Shown.{is_oversized, shown}
use Rattle.waf_model.specs.Transformed.{transform_all}
use Rattle.waf_model.specs.declared.address.Cidr.{Cidr}
use Rattle.waf_model.specs.declared.answers.Answers.{Answers}
use Rattle.waf_model.specs.declared.bundle.Bundle.{Bundle}
use Rattle.waf_model.specs.declared.field.Field.{Field}
use Rattle.waf_model.specs.declared.field.Field.TheVariants.{Body, Headers, Cookies}
use Rattle.waf_model.specs.declared.field.Oversize.{Oversize}
use Rattle.waf_model.specs.declared.field.Oversize.TheVariants as oversizes
use Rattle.waf_model.specs.declared.matching.Forwarded.{Forwarded}
use Rattle.waf_model.specs.declared.matching.LabelScope.{LabelScope}
use Rattle.waf_model.specs.declared.pattern.Pattern.{Pattern}
use Rattle.waf_model.specs.declared.request.Request.{Request}
use Rattle.waf_model.specs.declared.statement.Statement.{Statement}
use Rattle.waf_model.specs.declared.statement.Statement.TheOpen.{Statement-F}
use Rattle.waf_model.specs.declared.statement.Statement.TheFolds.{fold-Statement}
use Rattle.waf_model.specs.declared.transform.Transform.{Transform}

-- ---- conditions

-- a statement of a bundle whose lists of parts are pairs
pub data Condition : Type 0 where
  never : Condition
  always : Condition
  tested : (test : Test) (field : Field) (transforms : List Transform) → Condition
  addressed : (ranges : List Cidr) (forwarded : Option Forwarded) → Condition
  labelled : (scope : LabelScope) (key : List ℕ) → Condition
  answered : (key : List ℕ) → Condition
  both : (first second : Condition) → Condition
  either : (first second : Condition) → Condition
  opposite : (inner : Condition) → Condition

-- all of these
abbrev pub all_of : List Condition → Condition
all_of [] = always
all_of (c ∷ cs) = both c (all_of cs)

-- one of these
abbrev pub any_of : List Condition → Condition
any_of [] = never
any_of (c ∷ cs) = either c (any_of cs)

-- what is scoped down, and then an answer
abbrev pub scoped : Option Condition → Condition → Condition
scoped None inner = inner
scoped (Some scope) inner = both scope inner

-- the ranges of the bundle's address set of that ARN, and the patterns of its pattern set
abbrev pub ranges_of : Bundle → List ℕ → List Cidr
ranges_of bundle arn = option_map_or (λ set. set.ranges) (addresses_of bundle.ip_sets arn) []

abbrev pub set_patterns : Bundle → List ℕ → List Pattern
set_patterns bundle arn = option_map_or (λ set. set.patterns) (patterns_of bundle.regex_sets arn) []

-- one statement, with the condition of each part in its place
abbrev pub condition_step : Bundle → Statement-F Condition → Condition
condition_step bundle (Statement-F.ByteMatch text field transforms position) = tested (search position text) field transforms
condition_step bundle (Statement-F.Size op bytes field transforms) = tested (size op bytes) field transforms
condition_step bundle (Statement-F.Regex pattern field transforms) = tested (patterns (pattern ∷ [])) field transforms
condition_step bundle (Statement-F.PatternSet arn field transforms source) = tested (patterns (set_patterns bundle arn)) field transforms
condition_step bundle (Statement-F.Ip arn forwarded) = addressed (ranges_of bundle arn) forwarded
condition_step bundle (Statement-F.Label scope key) = labelled scope key
condition_step bundle (Statement-F.And parts) = all_of parts
condition_step bundle (Statement-F.Or parts) = any_of parts
condition_step bundle (Statement-F.Not part) = opposite part
condition_step bundle (Statement-F.Rate key custom_keys scope_down) = scoped scope_down (answered key)
condition_step bundle (Statement-F.Opaque key cost arn) = answered key

-- the condition of a statement of that bundle
abbrev pub condition : Bundle → Statement → Condition
condition bundle = fold-Statement Condition (condition_step bundle)

-- ---- what is asked of a request

-- how a field handles what is oversized; a field of another kind never is
abbrev pub oversize_of : Field → Oversize
oversize_of (Body oversize) = oversize
oversize_of (Headers filter part oversize) = oversize
oversize_of (Cookies filter part oversize) = oversize
oversize_of field = oversizes.Continue

-- some text that the field shows passes the test after the transformations
abbrev pub SomePasses : Test → Field → List Transform → Request → ℕ → Type 0
SomePasses test field transforms request body_limit = Any (λ text. Passes test (transform_all transforms text)) (shown field request body_limit)

-- where the field is oversized, MATCH makes the statement hold and NO_MATCH makes it not hold
abbrev pub OversizedHolds : Oversize → Type 0 → Type 0
OversizedHolds oversizes.Continue inspected = inspected
OversizedHolds oversizes.Match inspected = Unit {0}
OversizedHolds oversizes.NoMatch inspected = ⊥

abbrev pub FieldHolds : Bool → Oversize → Type 0 → Type 0
FieldHolds true oversize inspected = OversizedHolds oversize inspected
FieldHolds false oversize inspected = inspected

-- The condition is met by the request, under the answers, where `seen` are the labels that were added before, and the
-- keys of labels stand in that namespace; the body's limit is in bytes.
abbrev pub IsMet : Request → Answers → (List ℕ → Type 0) → List ℕ → ℕ → Condition → Type 0
IsMet request answers seen namespace body_limit never = ⊥
IsMet request answers seen namespace body_limit always = Unit {0}
IsMet request answers seen namespace body_limit (tested test field transforms) =
    FieldHolds (is_oversized field request body_limit) (oversize_of field) (SomePasses test field transforms request body_limit)
IsMet request answers seen namespace body_limit (addressed ranges forwarded) = AddressHolds ranges forwarded request
IsMet request answers seen namespace body_limit (labelled scope key) = (label : List ℕ) × seen label × IsTrue (label_holds scope key namespace label)
IsMet request answers seen namespace body_limit (answered key) = IsTrue (statement_answer answers key)
IsMet request answers seen namespace body_limit (both first second) =
    IsMet request answers seen namespace body_limit first × IsMet request answers seen namespace body_limit second
IsMet request answers seen namespace body_limit (either first second) =
    IsMet request answers seen namespace body_limit first ⊎ IsMet request answers seen namespace body_limit second
IsMet request answers seen namespace body_limit (opposite inner) = IsMet request answers seen namespace body_limit inner → ⊥

-- the statement of the bundle holds
abbrev pub Holds : Bundle → Statement → Request → Answers → (List ℕ → Type 0) → List ℕ → ℕ → Type 0
Holds bundle statement request answers seen namespace body_limit = IsMet request answers seen namespace body_limit (condition bundle statement)
