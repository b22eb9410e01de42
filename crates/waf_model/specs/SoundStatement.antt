-- What every statement that is read keeps to: each header name of a field is a token, and no repetition of a pattern has
-- `most` less than `least` (this project's own; others are answers).
use Rattle.std.specs.Prelude.{ℕ, Bool, true, ◌&&◌, Option}
use Rattle.std.specs.List.{list_all}
use Rattle.std.specs.Option.{option_map_or}
use Rattle.waf_model.specs.PatternOrder.{is_ordered}
use Rattle.waf_model.specs.Within.{is_token}
use Rattle.waf_model.specs.declared.field.Field.{Field}
use Rattle.waf_model.specs.declared.field.Field.TheVariants.{Header, Headers}
use Rattle.waf_model.specs.declared.field.Filter.{Filter}
use Rattle.waf_model.specs.declared.field.Filter.TheVariants.{All, Included, Excluded}
use Rattle.waf_model.specs.declared.rule.Top.{Top}
use Rattle.waf_model.specs.declared.rule.Top.TheVariants as tops
use Rattle.waf_model.specs.declared.statement.Statement.{Statement}
use Rattle.waf_model.specs.declared.statement.Statement.TheOpen.{Statement-F}
use Rattle.waf_model.specs.declared.statement.Statement.TheFolds.{fold-Statement}

-- each name of the filter is a token
abbrev pub has_tokens : Filter → Bool
has_tokens All = true
has_tokens (Included names) = list_all is_token names
has_tokens (Excluded names) = list_all is_token names

-- each header name of the field is a token; names of cookies and arguments may be any text
abbrev pub is_sound_field : Field → Bool
is_sound_field (Header name) = is_token name
is_sound_field (Headers filter part oversize) = has_tokens filter
is_sound_field other = true

-- one statement, with the answer for each part in its place
abbrev pub sound_step : Statement-F Bool → Bool
sound_step (Statement-F.ByteMatch search field transforms position) = is_sound_field field
sound_step (Statement-F.Size op size field transforms) = is_sound_field field
sound_step (Statement-F.Regex pattern field transforms) = is_ordered pattern && is_sound_field field
sound_step (Statement-F.PatternSet arn field transforms source) = is_sound_field field
sound_step (Statement-F.And parts) = list_all (λ sound. sound) parts
sound_step (Statement-F.Or parts) = list_all (λ sound. sound) parts
sound_step (Statement-F.Not part) = part
sound_step (Statement-F.Rate key custom_keys scope_down) = option_map_or (λ sound. sound) scope_down true
sound_step other = true

abbrev pub is_sound_statement : Statement → Bool
is_sound_statement = fold-Statement Bool sound_step

-- the same of the statement or scope-down of a rule of the web ACL
abbrev pub is_sound_top : Top → Bool
is_sound_top (tops.Plain rule) = is_sound_statement rule.statement
is_sound_top (tops.Group use_of) = true
is_sound_top (tops.Managed use_of) = option_map_or is_sound_statement use_of.scope_down true
