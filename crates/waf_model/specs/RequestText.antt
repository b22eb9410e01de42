-- The text of a request (this project's own). It is to read back as the request where that is within the limits with a
-- body of at most 65,536 bytes.
use Rattle.std.specs.Prelude.{ℕ, ◌*◌, ◌^◌, ◌/◌, ◌%◌, List, [], ◌∷◌, ◌++◌, map, codes, decimal, Bool, ◌&&◌, nat_le, if◌then◌else◌}
use Rattle.std.specs.List.{list_all, join_with_byte}
use Rattle.std.specs.Fmt.{digits}
use Rattle.std.specs.Prelude.{false}
use Rattle.base64.specs.Engines.{standard}
use Rattle.base64.specs.GeneralPurpose.{encode_of}
use Rattle.waf_model.specs.JsonText.{json_string, json_list}
use Rattle.waf_model.specs.declared.address.Address.{Address}
use Rattle.waf_model.specs.declared.address.Address.TheVariants.{V4, V6}
use Rattle.waf_model.specs.declared.request.Header.{Header}
use Rattle.waf_model.specs.declared.request.Request.{Request}

-- bytes in base64 (RFC 4648, 4)
unfoldable pub base64_text : List ℕ → List ℕ
base64_text bytes = encode_of standard bytes

-- the sixteen bits at a place of an IPv6 address, from the first place 0 to the last place 7, in hexadecimal digits
abbrev pub group_text : ℕ → ℕ → List ℕ
group_text n place = digits 16 false (n / 2 ^ (16 * place) % 65536)

-- four numbers with `.` between, or eight groups in lower case, without leading zeros and without `::`
abbrev pub address_text : Address → List ℕ
address_text (V4 n) = join_with_byte 46 (decimal (n / 16777216) ∷ decimal (n / 65536 % 256) ∷ decimal (n / 256 % 256) ∷ decimal (n % 256) ∷ [])
address_text (V6 n) = join_with_byte 58 (map (group_text n) (7 ∷ 6 ∷ 5 ∷ 4 ∷ 3 ∷ 2 ∷ 1 ∷ 0 ∷ []))

-- all bytes are 32 to 126
abbrev pub is_printable : List ℕ → Bool
is_printable text = list_all (λ b. nat_le 32 b && nat_le b 126) text

-- the value as a text, or in base64 where a byte isn't 32 to 126
abbrev pub value_member : List ℕ → List ℕ
value_member value = if is_printable value then codes "\"value\":" ++ json_string value else codes "\"valueBase64\":" ++ json_string (base64_text value)

-- an object with the name and the value
abbrev pub header_text : Header → List ℕ
header_text header = codes "{\"name\":" ++ json_string header.name ++ codes "," ++ value_member header.value ++ codes "}"

-- an object with these members, in this order; the body is in base64
abbrev pub request_text : Request → List ℕ
request_text request = codes "{\"args\":" ++ json_string request.query
    ++ codes ",\"body\":" ++ json_string (base64_text request.body)
    ++ codes ",\"clientIp\":" ++ json_string (address_text request.address)
    ++ codes ",\"headers\":" ++ json_list (map header_text request.headers)
    ++ codes ",\"httpMethod\":" ++ json_string request.method
    ++ codes ",\"uri\":" ++ json_string request.path ++ codes "}"
