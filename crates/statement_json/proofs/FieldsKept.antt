-- A field that is evaluated has header names that are tokens.
use Rattle.std.proofs.Common.{◌≡◌, ℕ, List, codes, Bool, true, false, IfOk, IsTrue, refl}
use Rattle.serde_json.specs.Data.{Data}
use Rattle.json_view.specs.Words.{ensured, text_member_at, word_at}
use Rattle.waf_model.specs.Json.{member_at, member_count, member_path}
use Rattle.waf_model.specs.SoundStatement.{is_sound_field, has_tokens as has_sound_tokens}
use Rattle.waf_model.specs.Within.{is_token}
use Rattle.waf_model.specs.declared.field.Field.{Field}
use Rattle.waf_model.specs.declared.field.Field.TheVariants as fields
use Rattle.waf_model.specs.declared.field.Filter.{Filter}
use Rattle.waf_model.specs.declared.field.Filter.TheVariants as filters
use Rattle.waf_model.specs.declared.read_fault.ReadFault.TheVariants as faults
use Rattle.statement_json.specs.FieldNames.{field_name_of, member_of}
use Rattle.statement_json.specs.Fields.{argument_of, body_of, cookies_of, field_at, field_by, field_named, field_of, filter_at, has_tokens, header_of, headers_of, known_if, oversize_at, part_words}
use Rattle.statement_json.specs.declared.field_kind.FieldKind.{FieldKind}
use Rattle.statement_json.specs.declared.field_kind.FieldKind.TheVariants as field_kinds
use Rattle.statement_json.specs.declared.field_name.FieldName.{FieldName}
use Rattle.statement_json.specs.declared.field_name.FieldName.TheVariants as names
use Rattle.std.specs.Prelude.{Option, Some, None, ⊤, ◌==◌}
use Rattle.statement_json.proofs.Onward.{onward}

-- a field that is evaluated is sound
abbrev pub SoundKind : FieldKind → Type 0
SoundKind (field_kinds.Known field) = IsTrue (is_sound_field field)
SoundKind field_kinds.JsonBody = ⊤
SoundKind field_kinds.Other = ⊤

sound_if : (evaluated : Bool) (field : Field) → (evaluated ≡ true → IsTrue (is_sound_field field)) → SoundKind (known_if evaluated field)
sound_if true field sound = sound refl
sound_if false field sound = tt

same_tokens : (filter : Filter) → has_tokens filter ≡ true → IsTrue (has_sound_tokens filter)
same_tokens filters.All so = refl
same_tokens (filters.Included names) so = so
same_tokens (filters.Excluded names) so = so

header_sound : (d : Data) (path : List ℕ) → IfOk (header_of d path) SoundKind
unfolding header_of
header_sound d path = onward SoundKind (text_member_at d (codes "Name") path) _ (λ name. sound_if (is_token name) (fields.Header name) (λ so. so))

argument_sound : (d : Data) (path : List ℕ) → IfOk (argument_of d path) SoundKind
unfolding argument_of
argument_sound d path = onward SoundKind (text_member_at d (codes "Name") path) _ (λ name. refl)

body_sound : (d : Data) (path : List ℕ) → IfOk (body_of d path) SoundKind
unfolding body_of
body_sound d path = onward SoundKind (oversize_at d path) _ (λ oversize. refl)

headers_sound : (d : Data) (path : List ℕ) → IfOk (headers_of d path) SoundKind
unfolding headers_of
headers_sound d path =
    onward SoundKind (filter_at (codes "IncludedHeaders") (codes "ExcludedHeaders") d path) _ (λ filter.
    onward SoundKind (word_at d (codes "MatchScope") part_words path) _ (λ part.
    onward SoundKind (oversize_at d path) _ (λ oversize.
    sound_if (has_tokens filter) (fields.Headers filter part oversize) (same_tokens filter))))

cookies_sound : (d : Data) (path : List ℕ) → IfOk (cookies_of d path) SoundKind
unfolding cookies_of
cookies_sound d path =
    onward SoundKind (filter_at (codes "IncludedCookies") (codes "ExcludedCookies") d path) _ (λ filter.
    onward SoundKind (word_at d (codes "MatchScope") part_words path) _ (λ part.
    onward SoundKind (oversize_at d path) _ (λ oversize. refl)))

by_name_sound : (name : FieldName) (found : Data) (path : List ℕ) → IfOk (field_by name found path) SoundKind
by_name_sound names.UriPath found path = refl
by_name_sound names.QueryString found path = refl
by_name_sound names.Method found path = refl
by_name_sound names.AllQueryArguments found path = refl
by_name_sound names.JsonBody found path = tt
by_name_sound names.SingleHeader found path = header_sound found path
by_name_sound names.SingleQueryArgument found path = argument_sound found path
by_name_sound names.Body found path = body_sound found path
by_name_sound names.Headers found path = headers_sound found path
by_name_sound names.Cookies found path = cookies_sound found path

named_sound : (name : Option FieldName) (d : Data) (path : List ℕ) → IfOk (field_named name d path) SoundKind
named_sound None d path = tt
named_sound (Some name) d path = onward SoundKind (member_at d (member_of name) path) _ (λ found. by_name_sound name found (member_path path (member_of name)))

one_sound : (d : Data) (path : List ℕ) → IfOk (field_of d path) SoundKind
unfolding field_of
one_sound d path = onward SoundKind (ensured (member_count d == 1) (faults.Shape path)) _ (λ one. named_sound (field_name_of d) d path)

pub field_sound : (d : Data) (path : List ℕ) → IfOk (field_at d path) SoundKind
unfolding field_at
field_sound d path = onward SoundKind (member_at d (codes "FieldToMatch") path) _ (λ found. one_sound found (member_path path (codes "FieldToMatch")))
