-- Fronts of the text of a request, as it is written.
use Rattle.std.specs.Prelude.{ℕ, List, ◌++◌, codes, map}
use Rattle.waf_model.specs.JsonText.{json_list, json_string}
use Rattle.waf_model.specs.RequestText.{address_text, base64_text, header_text}
use Rattle.waf_model.specs.declared.request.Request.{Request}

-- a request up to its body
abbrev pub up_to_body : Request → List ℕ
up_to_body request = codes "{\"args\":" ++ json_string request.query ++ codes ",\"body\":" ++ json_string (base64_text request.body)

-- a request up to its headers
abbrev pub up_to_headers : Request → List ℕ
up_to_headers request = up_to_body request ++ codes ",\"clientIp\":" ++ json_string (address_text request.address) ++ codes ",\"headers\":" ++ json_list (map header_text request.headers)
