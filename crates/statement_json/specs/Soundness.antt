-- What every statement at the top of a rule that is read keeps to, and how many statements it is (this project's own);
-- the same as is said of a rule of a web ACL, whose action isn't looked at.
use Rattle.std.specs.Prelude.{ℕ, ◌+◌, Bool, true, unwrap_or, option_map}
use Rattle.std.specs.Option.{option_map_or}
use Rattle.waf_model.specs.Cost.{is_limited}
use Rattle.waf_model.specs.SoundStatement.{is_sound_statement}
use Rattle.waf_model.specs.StatementCount.{statement_count}
use Rattle.statement_json.specs.declared.top.TopStatement.{TopStatement}
use Rattle.statement_json.specs.declared.top.TopStatement.TheVariants as tops

-- header names of fields are tokens, and patterns are ordered, also in what a managed rule group is scoped down to
abbrev pub is_sound_top : TopStatement → Bool
is_sound_top (tops.Plain statement) = is_sound_statement statement
is_sound_top (tops.Group use_of) = true
is_sound_top (tops.Managed use_of) = option_map_or is_sound_statement use_of.scope_down true

-- each statement has at most 100 transformations, and costs at most 10,000 where it is opaque
abbrev pub is_limited_top : TopStatement → Bool
is_limited_top (tops.Plain statement) = is_limited statement
is_limited_top (tops.Group use_of) = true
is_limited_top (tops.Managed use_of) = option_map_or is_limited use_of.scope_down true

-- the statement with all its parts; a reference to a rule group is one, and so is a managed rule group
abbrev pub top_count : TopStatement → ℕ
top_count (tops.Plain statement) = statement_count statement
top_count (tops.Group use_of) = 1
top_count (tops.Managed use_of) = 1 + unwrap_or (option_map statement_count use_of.scope_down) 0
