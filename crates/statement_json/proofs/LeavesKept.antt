-- A statement that is made of no others is sound, limited and one.
use Rattle.std.proofs.Common.{◌≡◌, ℕ, ◌≤◌, List, codes, length, Bool, true, false, ◌&&◌, nat_le, if◌then◌else◌, IfOk, IsTrue, Option, Some, None, MatchOption, Ok, Err, refl, ap₂, ◌∙◌, arith}
use Rattle.std.proofs.lemmas.Bool.{le-leb}
use Rattle.std.proofs.lemmas.List.Sums.{count_by-le-length}
use Rattle.std.specs.Option.{IfSome, option_map_or}
use Rattle.serde_json.specs.Data.{Data}
use Rattle.serde_json.specs.Written.{compact_text, has_float}
use Rattle.json_view.specs.Words.{label_at, object_at, optional_text_at, word_at}
use Rattle.pattern_read.proofs.OrderLemmas.{spells_ordered}
use Rattle.pattern_read.proofs.SpelledLemmas.{pinned}
use Rattle.pattern_read.specs.Spelled.{pattern_spelled}
use Rattle.waf_model.specs.Cost.{cross_site_base, is_limited, limits_step, match_base, pattern_set_base, regex_base, size_base, sql_injection_base}
use Rattle.waf_model.specs.PatternGrammar.{Spells}
use Rattle.waf_model.specs.PatternOrder.{is_ordered}
use Rattle.waf_model.specs.References.{patterns_of}
use Rattle.waf_model.specs.SoundStatement.{is_sound_field, is_sound_statement, sound_step}
use Rattle.waf_model.specs.StatementCount.{count_step, statement_count}
use Rattle.waf_model.specs.declared.field.Field.TheVariants as fields
use Rattle.waf_model.specs.declared.matching.Compare.{Compare}
use Rattle.waf_model.specs.declared.matching.Position.{Position}
use Rattle.waf_model.specs.declared.matching.Position.TheVariants as positions
use Rattle.waf_model.specs.declared.pattern.Pattern.{Pattern}
use Rattle.waf_model.specs.declared.read_fault.ReadFault.TheVariants as faults
use Rattle.waf_model.specs.declared.sets.RegexSet.{RegexSet}
use Rattle.waf_model.specs.declared.statement.Statement.{Statement}
use Rattle.waf_model.specs.declared.statement.Statement.TheVariants as statements
use Rattle.waf_model.specs.declared.transform.Transform.{Transform}
use Rattle.statement_json.specs.Matches.{arn_at, byte_match_of, byte_match_on, compare_at, cost_of, cost_on, cross_site_of, evaluated_reference, is_high, is_outside, keyed_match, keyed_reference, opaque, opaque_reference, pattern_set_of, pattern_set_on, position_at, regex_at, regex_of, regex_on, search_at, size_at, size_of, size_on, sql_base_at, sql_injection_of, target_of, targeted, whole_text}
use Rattle.statement_json.specs.References.{forwarded_at, ip_set_of, label_match_of, scope_words}
use Rattle.statement_json.specs.Statements.{leaf, located}
use Rattle.statement_json.specs.Transforms.{charged, in_order, transforms_at}
use Rattle.statement_json.specs.Fields.{field_at}
use Rattle.statement_json.specs.declared.encoding.Encoding.{Encoding}
use Rattle.statement_json.specs.declared.field_kind.FieldKind.{FieldKind}
use Rattle.statement_json.specs.declared.field_kind.FieldKind.TheVariants as field_kinds
use Rattle.statement_json.specs.declared.listed.Listed.{Listed}
use Rattle.statement_json.specs.declared.statement_kind.StatementKind.{StatementKind}
use Rattle.statement_json.specs.declared.statement_kind.StatementKind.TheVariants as kinds
use Rattle.statement_json.specs.declared.target.Target.{Target}
use Rattle.statement_json.proofs.FieldsKept.{SoundKind, field_sound}
use Rattle.statement_json.proofs.Folded.{folded-ByteMatch, folded-Ip, folded-Label, folded-Opaque, folded-PatternSet, folded-Regex, folded-Size}
use Rattle.statement_json.proofs.Onward.{onward, onward_with}
use Rattle.statement_json.proofs.TransformsKept.{Few, in_order_few, transforms_few}

-- one statement that is sound and limited
pub record IsOne (statement : Statement) : Type 0 where
  pub sound : IsTrue (is_sound_statement statement)
  pub limited : IsTrue (is_limited statement)
  pub one : statement_count statement ≡ 1

-- ---- targets

-- a target with a sound field and few transformations
abbrev KeptTarget : Target → Type 0
KeptTarget target = IsTrue (is_sound_field target.field) × IsTrue (nat_le (length target.transforms) 100)

target_kept : (field : FieldKind) (listed : List Listed) → SoundKind field → Few listed → IfSome (target_of field listed) KeptTarget
target_kept (field_kinds.Known field) listed sound few = from (in_order listed) (in_order_few listed few)
  where
    from : (known : Option (List Transform)) → IfSome known Few → IfSome (targeted field known) KeptTarget
    from None few = tt
    from (Some known) few = (sound, le-leb (length known) 100 few)
target_kept field_kinds.JsonBody listed sound few = tt
target_kept field_kinds.Other listed sound few = tt

-- ---- costs

cost_small : (base : ℕ) (field : FieldKind) (charged : ℕ) → base ≤ 40 → charged ≤ 100 → cost_on base field charged ≤ 10000
cost_small base (field_kinds.Known fields.UriPath) charged small few = omega arith
cost_small base (field_kinds.Known fields.QueryString) charged small few = omega arith
cost_small base (field_kinds.Known fields.Method) charged small few = omega arith
cost_small base (field_kinds.Known fields.AllArguments) charged small few = omega arith
cost_small base (field_kinds.Known (fields.Header name)) charged small few = omega arith
cost_small base (field_kinds.Known (fields.Argument name)) charged small few = omega arith
cost_small base (field_kinds.Known (fields.Body oversize)) charged small few = omega arith
cost_small base (field_kinds.Known (fields.Headers filter part oversize)) charged small few = omega arith
cost_small base (field_kinds.Known (fields.Cookies filter part oversize)) charged small few = omega arith
cost_small base field_kinds.JsonBody charged small few = omega arith
cost_small base field_kinds.Other charged small few = omega arith

cost_limited : (base : ℕ) (field : FieldKind) (listed : List Listed) → base ≤ 40 → Few listed → IsTrue (nat_le (cost_of base field listed) 10000)
cost_limited base field listed small few =
    let charges : charged listed ≤ length listed = count_by-le-length _ listed in
    let some : charged listed ≤ 100 = omega (arith, charges, few) in
    le-leb (cost_of base field listed) 10000 (cost_small base field (charged listed) small some)

match_small : (position : Position) → match_base position ≤ 40
match_small positions.Exactly = omega arith
match_small positions.Starts = omega arith
match_small positions.Ends = omega arith
match_small positions.Contains = omega arith
match_small positions.Word = omega arith

injection_small : (high : Bool) → sql_injection_base high ≤ 40
injection_small true = omega arith
injection_small false = omega arith

-- ---- answers

-- a cost that is limited, where it is known
abbrev LimitedCost : Option ℕ → Type 0
LimitedCost cost = IsTrue (option_map_or (λ n. nat_le n 10000) cost true)

one_answer : (key : List ℕ) (cost : Option ℕ) (arn : Option (List ℕ)) → LimitedCost cost → IsOne (statements.Opaque key cost arn)
one_answer key cost arn limited =
    record { sound = folded-Opaque sound_step key cost arn; limited = folded-Opaque limits_step key cost arn ∙ limited; one = folded-Opaque count_step key cost arn }

unless_float : (float : Bool) (path : List ℕ) (statement : Statement) → IsOne statement → IfOk (if float then Err (faults.Number path) else Ok statement) IsOne
unless_float true path statement kept = tt
unless_float false path statement kept = kept

pub opaque_one : (keyed : Data) (cost : Option ℕ) (arn : Option (List ℕ)) (path : List ℕ) → LimitedCost cost → IfOk (opaque keyed cost arn path) IsOne
opaque_one keyed cost arn path limited = unless_float (has_float keyed) path (statements.Opaque (compact_text keyed) cost arn) (one_answer (compact_text keyed) cost arn limited)

-- ---- tests of a part of a request

byte_match_one : (target : Option Target) (search : List ℕ) (position : Position) (keyed : Data) (cost : ℕ) (path : List ℕ) → IfSome target KeptTarget → LimitedCost (Some cost)
    → IfOk (byte_match_on target search position keyed cost path) IsOne
byte_match_one None search position keyed cost path kept limited = opaque_one keyed (Some cost) None path limited
byte_match_one (Some target) search position keyed cost path kept limited =
    record { sound = folded-ByteMatch sound_step search target.field target.transforms position ∙ kept.0; limited = folded-ByteMatch limits_step search target.field target.transforms position ∙ kept.1; one = folded-ByteMatch count_step search target.field target.transforms position }

byte_match_kept : (encoding : Encoding) (d found : Data) (path at : List ℕ) → IfOk (byte_match_of encoding d found path at) IsOne
unfolding byte_match_of
byte_match_kept encoding d found path at =
    onward IsOne (search_at encoding found at) _ (λ search.
    onward_with SoundKind IsOne (field_at found at) _ (field_sound found at) (λ field sound.
    onward_with Few IsOne (transforms_at found at) _ (transforms_few found at) (λ listed few.
    onward IsOne (position_at found at) _ (λ position.
    byte_match_one (target_of field listed) search position (keyed_match encoding search found d) (cost_of (match_base position) field listed) path
    (target_kept field listed sound few) (cost_limited (match_base position) field listed (match_small position) few)))))

size_one : (target : Option Target) (op : Compare) (size : ℕ) (d : Data) (cost : ℕ) (path : List ℕ) → IfSome target KeptTarget → LimitedCost (Some cost)
    → IfOk (size_on target op size d cost path) IsOne
size_one None op size d cost path kept limited = opaque_one d (Some cost) None path limited
size_one (Some target) op size d cost path kept limited =
    record { sound = folded-Size sound_step op size target.field target.transforms ∙ kept.0; limited = folded-Size limits_step op size target.field target.transforms ∙ kept.1; one = folded-Size count_step op size target.field target.transforms }

size_kept : (d found : Data) (path at : List ℕ) → IfOk (size_of d found path at) IsOne
unfolding size_of
size_kept d found path at =
    onward_with SoundKind IsOne (field_at found at) _ (field_sound found at) (λ field sound.
    onward IsOne (compare_at found at) _ (λ op.
    onward IsOne (size_at found at) _ (λ size.
    onward_with Few IsOne (transforms_at found at) _ (transforms_few found at) (λ listed few.
    size_one (target_of field listed) op size d (cost_of size_base field listed) path
    (target_kept field listed sound few) (cost_limited size_base field listed (omega arith) few)))))

-- ---- patterns

pattern_ordered : (text : List ℕ) → IfSome (pattern_spelled text) (λ pattern. IsTrue (is_ordered pattern))
pattern_ordered text = from (pattern_spelled text) (pinned text)
  where
    from : (found : Option Pattern) → MatchOption found ((pattern : Pattern) → Spells text pattern → ⊥) (Spells text) → IfSome found (λ pattern. IsTrue (is_ordered pattern))
    from None none = tt
    from (Some pattern) spells = spells_ordered text pattern spells

regex_one : (target : Option Target) (pattern : Option Pattern) (d : Data) (cost : ℕ) (path : List ℕ) → IfSome target KeptTarget → IfSome pattern (λ pattern. IsTrue (is_ordered pattern)) → LimitedCost (Some cost)
    → IfOk (regex_on target pattern d cost path) IsOne
regex_one None pattern d cost path kept ordered limited = opaque_one d (Some cost) None path limited
regex_one (Some target) None d cost path kept ordered limited = opaque_one d (Some cost) None path limited
regex_one (Some target) (Some pattern) d cost path kept ordered limited =
    record { sound = folded-Regex sound_step pattern target.field target.transforms ∙ ap₂ (λ a b. a && b) ordered kept.0; limited = folded-Regex limits_step pattern target.field target.transforms ∙ kept.1; one = folded-Regex count_step pattern target.field target.transforms }

regex_kept : (d found : Data) (path at : List ℕ) → IfOk (regex_of d found path at) IsOne
unfolding regex_of
regex_kept d found path at =
    onward IsOne (regex_at found at) _ (λ text.
    onward_with SoundKind IsOne (field_at found at) _ (field_sound found at) (λ field sound.
    onward_with Few IsOne (transforms_at found at) _ (transforms_few found at) (λ listed few.
    regex_one (target_of field listed) (pattern_spelled text) d (cost_of regex_base field listed) path
    (target_kept field listed sound few) (pattern_ordered text) (cost_limited regex_base field listed (omega arith) few))))

-- ---- references

reference_one : (set : Option RegexSet) (arn : List ℕ) (d : Data) (cost : ℕ) (path : List ℕ) → LimitedCost (Some cost) → IfOk (opaque_reference set arn d cost path) IsOne
reference_one set arn d cost path limited =
    unless_float (has_float d) path (statements.Opaque (compact_text (keyed_reference set d)) (Some cost) (Some arn)) (one_answer (compact_text (keyed_reference set d)) (Some cost) (Some arn) limited)

evaluated_one : (target : Target) (arn : List ℕ) (d : Data) (path : List ℕ) → KeptTarget target → IfOk (evaluated_reference target arn d path) IsOne
evaluated_one target arn d path kept = onward IsOne (whole_text d path) _ (λ source.
    record { sound = folded-PatternSet sound_step arn target.field target.transforms source ∙ kept.0; limited = folded-PatternSet limits_step arn target.field target.transforms source ∙ kept.1; one = folded-PatternSet count_step arn target.field target.transforms source })

pattern_set_one : (target : Option Target) (set : Option RegexSet) (arn : List ℕ) (d : Data) (cost : ℕ) (path : List ℕ) → IfSome target KeptTarget → LimitedCost (Some cost)
    → IfOk (pattern_set_on target set arn d cost path) IsOne
pattern_set_one None set arn d cost path kept limited = reference_one set arn d cost path limited
pattern_set_one (Some target) set arn d cost path kept limited = from (is_outside set)
  where
    from : (outside : Bool) → IfOk (if outside then opaque_reference set arn d cost path else evaluated_reference target arn d path) IsOne
    from true = reference_one set arn d cost path limited
    from false = evaluated_one target arn d path kept

pattern_set_kept : (sets : List RegexSet) (d found : Data) (path at : List ℕ) → IfOk (pattern_set_of sets d found path at) IsOne
unfolding pattern_set_of
pattern_set_kept sets d found path at =
    onward IsOne (arn_at found at) _ (λ arn.
    onward_with SoundKind IsOne (field_at found at) _ (field_sound found at) (λ field sound.
    onward_with Few IsOne (transforms_at found at) _ (transforms_few found at) (λ listed few.
    pattern_set_one (target_of field listed) (patterns_of sets arn) arn d (cost_of pattern_set_base field listed) path
    (target_kept field listed sound few) (cost_limited pattern_set_base field listed (omega arith) few))))

ip_set_kept : (d : Data) (path : List ℕ) → IfOk (ip_set_of d path) IsOne
unfolding ip_set_of
ip_set_kept d path = onward IsOne (arn_at d path) _ (λ arn. onward IsOne (forwarded_at d path) _ (λ forwarded.
    record { sound = folded-Ip sound_step arn forwarded; limited = folded-Ip limits_step arn forwarded; one = folded-Ip count_step arn forwarded }))

label_match_kept : (d : Data) (path : List ℕ) → IfOk (label_match_of d path) IsOne
unfolding label_match_of
label_match_kept d path = onward IsOne (word_at d (codes "Scope") scope_words path) _ (λ scope. onward IsOne (label_at d (codes "Key") path) _ (λ key.
    record { sound = folded-Label sound_step scope key; limited = folded-Label limits_step scope key; one = folded-Label count_step scope key }))

-- ---- detectors and questions

base_small : (found : Data) (at : List ℕ) → IfOk (sql_base_at found at) (λ base. base ≤ 40)
unfolding sql_base_at
base_small found at = onward (λ base. base ≤ 40) (optional_text_at found (codes "SensitivityLevel") at) _ (λ level. injection_small (is_high level))

sql_injection_kept : (d found : Data) (path at : List ℕ) → IfOk (sql_injection_of d found path at) IsOne
unfolding sql_injection_of
sql_injection_kept d found path at =
    onward IsOne (field_at found at) _ (λ field.
    onward_with Few IsOne (transforms_at found at) _ (transforms_few found at) (λ listed few.
    onward_with (λ base. base ≤ 40) IsOne (sql_base_at found at) _ (base_small found at) (λ base small.
    opaque_one d (Some (cost_of base field listed)) None path (cost_limited base field listed small few))))

cross_site_kept : (d found : Data) (path at : List ℕ) → IfOk (cross_site_of d found path at) IsOne
unfolding cross_site_of
cross_site_kept d found path at =
    onward IsOne (field_at found at) _ (λ field.
    onward_with Few IsOne (transforms_at found at) _ (transforms_few found at) (λ listed few.
    opaque_one d (Some (cost_of cross_site_base field listed)) None path (cost_limited cross_site_base field listed (omega arith) few)))

located_kept : (d found : Data) (path at : List ℕ) → IfOk (located d found path at) IsOne
located_kept d found path at = onward IsOne (object_at found at) _ (λ object. opaque_one d (Some 1) None path refl)

-- ---- all of them

pub leaf_kept : (sets : List RegexSet) (encoding : Encoding) (kind : StatementKind) (d found : Data) (path at : List ℕ) → IfOk (leaf sets encoding kind d found path at) IsOne
leaf_kept sets encoding kinds.ByteMatch d found path at = byte_match_kept encoding d found path at
leaf_kept sets encoding kinds.SizeConstraint d found path at = size_kept d found path at
leaf_kept sets encoding kinds.RegexMatch d found path at = regex_kept d found path at
leaf_kept sets encoding kinds.RegexPatternSetReference d found path at = pattern_set_kept sets d found path at
leaf_kept sets encoding kinds.IpSetReference d found path at = ip_set_kept found at
leaf_kept sets encoding kinds.LabelMatch d found path at = label_match_kept found at
leaf_kept sets encoding kinds.And d found path at = tt
leaf_kept sets encoding kinds.Or d found path at = tt
leaf_kept sets encoding kinds.Not d found path at = tt
leaf_kept sets encoding kinds.RateBased d found path at = tt
leaf_kept sets encoding kinds.RuleGroupReference d found path at = tt
leaf_kept sets encoding kinds.ManagedRuleGroup d found path at = tt
leaf_kept sets encoding kinds.SqliMatch d found path at = sql_injection_kept d found path at
leaf_kept sets encoding kinds.XssMatch d found path at = cross_site_kept d found path at
leaf_kept sets encoding kinds.GeoMatch d found path at = located_kept d found path at
leaf_kept sets encoding kinds.AsnMatch d found path at = located_kept d found path at
