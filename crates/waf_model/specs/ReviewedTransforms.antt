-- Which text transformations a review covers, and how large their machines may be (this project's own).
use Rattle.std.specs.Prelude.{ℕ, Bool, true, false}
use Rattle.waf_model.specs.declared.transform.Transform.{Transform}
use Rattle.waf_model.specs.declared.transform.Transform.TheVariants.{KeepAll, Lowercase, RemoveNulls, ReplaceNulls, CompressWhiteSpace, ReplaceComments, CmdLine, UrlDecode, HexDecode, Base64Decode, SqlHexDecode, HtmlEntityDecode, NormalizePath, Md5}

-- MD5 and NORMALIZE_PATH have no machine of boundedly many states, and that of HTML_ENTITY_DECODE has too many
abbrev pub is_reviewed : Transform → Bool
is_reviewed HtmlEntityDecode = false
is_reviewed NormalizePath = false
is_reviewed Md5 = false
is_reviewed other = true

-- it changes only texts that are encoded as a whole, and leaves all others
abbrev pub is_guarded : Transform → Bool
is_guarded HexDecode = true
is_guarded Base64Decode = true
is_guarded other = false

-- how many states a machine of the transformation has at most; none where it isn't reviewed
abbrev pub most_states : Transform → ℕ
most_states KeepAll = 1
most_states Lowercase = 1
most_states RemoveNulls = 1
most_states ReplaceNulls = 1
most_states CompressWhiteSpace = 2
most_states CmdLine = 2
most_states ReplaceComments = 4
most_states UrlDecode = 96
most_states HexDecode = 96
most_states Base64Decode = 96
most_states SqlHexDecode = 96
most_states HtmlEntityDecode = 0
most_states NormalizePath = 0
most_states Md5 = 0
