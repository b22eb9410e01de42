-- Transformations that published encodings decide: URL_DECODE, BASE64_DECODE, MD5 (API type `TextTransformation`; what
-- becomes of other texts is this project's own).
use Rattle.std.specs.Prelude.{ℕ, List, map}
use Rattle.std.specs.Option.{unwrap_or}
use Rattle.base64.specs.Engines.{standard}
use Rattle.base64.specs.GeneralPurpose.{decoded_of}
use Rattle.md5.specs.Md5.{md5}
use Rattle.percent_encoding.specs.Percent.{percent_decode}
use Rattle.waf_model.specs.TransformBytes.{replace}

-- URL_DECODE: `+` becomes a space, then each `%` with two hexadecimal digits becomes its byte, and every other `%`
-- stays (URL Standard, 1.3 and 5.1)
unfoldable pub url_decoded : List ℕ → List ℕ
url_decoded text = percent_decode (map (replace 43 32) text)

-- BASE64_DECODE: canonical padded base64 of the standard alphabet becomes its bytes, and every other text stays
-- (RFC 4648, 4)
unfoldable pub base64_decoded : List ℕ → List ℕ
base64_decoded text = unwrap_or (decoded_of standard text) text

-- MD5: the 16 bytes of the text's digest (RFC 1321)
unfoldable pub digest : List ℕ → List ℕ
digest text = md5 text
