-- What text transformations make of a text (AWS WAF Developer Guide, "Text transformations"; each definition is this
-- project's own).
use Rattle.std.specs.Prelude.{ℕ, List, [], ◌∷◌}
use Rattle.waf_model.specs.TransformBytes.{lower_cased, nulls_removed, nulls_replaced}
use Rattle.waf_model.specs.TransformComments.{comments_replaced}
use Rattle.waf_model.specs.TransformEncodings.{url_decoded, base64_decoded, digest}
use Rattle.waf_model.specs.TransformEntities.{entities_decoded}
use Rattle.waf_model.specs.TransformHex.{hex_decoded, sql_hex_decoded}
use Rattle.waf_model.specs.TransformPaths.{path_normalized}
use Rattle.waf_model.specs.TransformSpaces.{white_space_compressed, command_line}
use Rattle.waf_model.specs.declared.transform.Transform.{Transform}
use Rattle.waf_model.specs.declared.transform.Transform.TheVariants.{KeepAll, Lowercase, RemoveNulls, ReplaceNulls, CompressWhiteSpace, ReplaceComments, CmdLine, UrlDecode, HexDecode, Base64Decode, SqlHexDecode, HtmlEntityDecode, NormalizePath, Md5}

-- the text after one transformation; NONE leaves it
abbrev pub transform : Transform → List ℕ → List ℕ
transform KeepAll text = text
transform Lowercase text = lower_cased text
transform RemoveNulls text = nulls_removed text
transform ReplaceNulls text = nulls_replaced text
transform CompressWhiteSpace text = white_space_compressed text
transform ReplaceComments text = comments_replaced text
transform CmdLine text = command_line text
transform UrlDecode text = url_decoded text
transform HexDecode text = hex_decoded text
transform Base64Decode text = base64_decoded text
transform SqlHexDecode text = sql_hex_decoded text
transform HtmlEntityDecode text = entities_decoded text
transform NormalizePath text = path_normalized text
transform Md5 text = digest text

-- the text after all of them, from the first to the last
abbrev pub transform_all : List Transform → List ℕ → List ℕ
transform_all [] text = text
transform_all (t ∷ ts) text = transform_all ts (transform t text)
