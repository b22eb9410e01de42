-- How the response code of a Block is read (API types `BlockAction` and `CustomResponse`; that a code is from 200 to 599 is
-- this project's own).
use Rattle.std.specs.Prelude.{ℕ, List, codes, Option, Some, None, option_and_then, Result, Ok}
use Rattle.serde_json.specs.Data.{Data}
use Rattle.serde_json.specs.Find.{get}
use Rattle.json_view.specs.Words.{whole_member_at}
use Rattle.waf_model.specs.Json.{member_path, present}
use Rattle.waf_model.specs.declared.read_fault.ReadFault.{ReadFault}

-- the code of a Block without a custom response (AWS WAF Developer Guide, "Rule actions")
abbrev pub forbidden : ℕ
forbidden = 403

-- the least and the greatest code of a custom response
abbrev pub least_code : ℕ
least_code = 200

abbrev pub greatest_code : ℕ
greatest_code = 599

-- `CustomResponse` of an action's `Block`, where it is there; a Block that is no object has none
abbrev pub custom_response : Data → Option Data
custom_response d = option_and_then (λ block. present (get (codes "CustomResponse") block)) (present (get (codes "Block") d))

-- `ResponseCode` of a custom response; other members of it are unread
abbrev pub response_code : Option Data → List ℕ → Result ℕ ReadFault
response_code None path = Ok forbidden
response_code (Some found) path = whole_member_at found (codes "ResponseCode") least_code greatest_code path

-- the code of an action's `Block`
unfoldable pub block_code : Data → List ℕ → Result ℕ ReadFault
block_code d path = response_code (custom_response d) (member_path (member_path path (codes "Block")) (codes "CustomResponse"))
