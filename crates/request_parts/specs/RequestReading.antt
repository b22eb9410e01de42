-- How a recorded request is read (this project's own; the members are named as the fields of a request in the log of AWS
-- WAF, AWS WAF Developer Guide, "Log fields").
use Rattle.std.specs.Prelude.{ℕ, List, [], length, codes, not, ◌==◌, if◌then◌else◌, Option, Some, None, Result, Ok, Err}
use Rattle.serde_json.specs.Data.{Data}
use Rattle.serde_json.specs.Find.{get}
use Rattle.base64.specs.Engines.{standard}
use Rattle.base64.specs.GeneralPurpose.{decoded_of}
use Rattle.json_view.specs.Words.{each_of, ensured, optional_list_at, optional_text_at, text_member_at}
use Rattle.waf_model.specs.AddressText.{address_of}
use Rattle.waf_model.specs.Gives.{◌>>=◌}
use Rattle.waf_model.specs.Json.{is_object, member_path, parsed, present}
use Rattle.waf_model.specs.Within.{is_token}
use Rattle.waf_model.specs.declared.address.Address.{Address}
use Rattle.waf_model.specs.declared.read_fault.ReadFault.{ReadFault}
use Rattle.waf_model.specs.declared.read_fault.ReadFault.TheVariants as faults
use Rattle.waf_model.specs.declared.request.Header.{Header}
use Rattle.waf_model.specs.declared.request.Request.{Request}
use Rattle.request_parts.specs.JoinedHeaders.{joined}

-- `httpMethod`: a token
unfoldable pub method_at : Data → List ℕ → Result (List ℕ) ReadFault
method_at d path = do
  text ← text_member_at d (codes "httpMethod") path
  token ← ensured (is_token text) (faults.Name (member_path path (codes "httpMethod")))
  Ok text

-- a text that may be absent, which is then empty
abbrev pub or_empty : Option (List ℕ) → List ℕ
or_empty None = []
or_empty (Some text) = text

-- `args`: the query
unfoldable pub query_at : Data → List ℕ → Result (List ℕ) ReadFault
query_at d path = optional_text_at d (codes "args") path >>= λ found. Ok (or_empty found)

-- the address, or the fault of a text that is none
abbrev pub known_address : Option Address → List ℕ → Result Address ReadFault
known_address None path = Err (faults.Address path)
known_address (Some address) path = Ok address

-- `clientIp`: an address
unfoldable pub client_at : Data → List ℕ → Result Address ReadFault
client_at d path = do
  text ← text_member_at d (codes "clientIp") path
  known_address (address_of text) (member_path path (codes "clientIp"))

-- the decoded bytes, or the fault of a text that is no canonical base64 (RFC 4648, 4)
abbrev pub known_bytes : Option (List ℕ) → List ℕ → Result (List ℕ) ReadFault
known_bytes None path = Err (faults.Base64 path)
known_bytes (Some bytes) path = Ok bytes

-- ---- headers

-- the value of a line: `valueBase64` where it is there, else `value`
abbrev pub value_from : Option (List ℕ) → Data → List ℕ → Result (List ℕ) ReadFault
value_from None d path = text_member_at d (codes "value") path
value_from (Some text) d path = known_bytes (decoded_of standard text) (member_path path (codes "valueBase64"))

unfoldable pub value_at : Data → List ℕ → Result (List ℕ) ReadFault
value_at d path = optional_text_at d (codes "valueBase64") path >>= λ found. value_from found d path

-- the name of a line, which isn't empty
unfoldable pub name_at : Data → List ℕ → Result (List ℕ) ReadFault
name_at d path = do
  text ← text_member_at d (codes "name") path
  named ← ensured (not (length text == 0)) (faults.Name (member_path path (codes "name")))
  Ok text

-- a line of a header
abbrev pub line_of : Data → List ℕ → Result Header ReadFault
line_of d path = do
  name ← name_at d path
  value ← value_at d path
  Ok (record { name = name; value = value })

-- the headers of a list of lines
abbrev pub headers_of : List Data → List ℕ → Result (List Header) ReadFault
headers_of all path = each_of line_of all path >>= λ lines. Ok (joined lines)

-- `headers`
unfoldable pub headers_at : Data → List ℕ → Result (List Header) ReadFault
headers_at d path = optional_list_at d (codes "headers") path >>= λ all. headers_of all (member_path path (codes "headers"))

-- ---- the body and the whole

-- the bytes of a body, which is empty where it is absent
abbrev pub body_from : Option (List ℕ) → List ℕ → Result (List ℕ) ReadFault
body_from None path = Ok []
body_from (Some text) path = known_bytes (decoded_of standard text) path

-- `body`
unfoldable pub body_at : Data → List ℕ → Result (List ℕ) ReadFault
body_at d path = optional_text_at d (codes "body") path >>= λ found. body_from found (member_path path (codes "body"))

-- the members of a request, in this order
unfoldable pub request_at : Data → List ℕ → Result Request ReadFault
request_at d path = do
  method ← method_at d path
  uri ← text_member_at d (codes "uri") path
  query ← query_at d path
  client ← client_at d path
  headers ← headers_at d path
  body ← body_at d path
  Ok (record { method = method; path = uri; query = query; headers = headers; body = body; address = client })

-- a request at the top, or where the object `httpRequest` stands there, as in a line of the log, that object
abbrev pub logged_or_top : Option Data → Data → Result Request ReadFault
logged_or_top None d = request_at d (codes "$")
logged_or_top (Some found) d = if is_object found then request_at found (member_path (codes "$") (codes "httpRequest")) else request_at d (codes "$")

-- the request of a parsed text
abbrev pub request_of : Option Data → Result Request ReadFault
request_of None = Err faults.Json
request_of (Some d) = logged_or_top (present (get (codes "httpRequest") d)) d

-- what the bytes of a request are read as
unfoldable pub request_reading : List ℕ → Result Request ReadFault
request_reading bytes = request_of (parsed bytes)
