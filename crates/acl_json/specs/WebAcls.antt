-- How a web ACL and a rule group are read (API types `WebACL` and `RuleGroup`), and the web ACL of a bundle.
use Rattle.std.specs.Prelude.{ℕ, List, [], ◌∷◌, codes, ◌==◌, if◌then◌else◌, Option, Some, None, unwrap_or, Result, Ok, Err}
use Rattle.serde_json.specs.Data.{Data}
use Rattle.json_view.specs.Words.{is_there, name_at, named_count, optional_text_at, text_member_at, whole_member_at}
use Rattle.statement_json.specs.Blocks.{block_code}
use Rattle.statement_json.specs.declared.encoding.Encoding.{Encoding}
use Rattle.statement_json.specs.declared.encoding.Encoding.TheVariants as encodings
use Rattle.waf_model.specs.Gives.{◌>>=◌}
use Rattle.waf_model.specs.Json.{member_at, member_path, optional_at, parsed}
use Rattle.waf_model.specs.declared.action.Decision.{Decision}
use Rattle.waf_model.specs.declared.action.Decision.TheVariants as decisions
use Rattle.waf_model.specs.declared.group.Group.{Group}
use Rattle.waf_model.specs.declared.read_fault.ReadFault.{ReadFault}
use Rattle.waf_model.specs.declared.read_fault.ReadFault.TheVariants as faults
use Rattle.waf_model.specs.declared.sets.RegexSet.{RegexSet}
use Rattle.waf_model.specs.declared.web_acl.Acl.{Acl}
use Rattle.acl_json.specs.BodyLimit.{body_limit_at}
use Rattle.acl_json.specs.Immunity.{immunity_at}
use Rattle.acl_json.specs.Namespaces.{namespace_at}
use Rattle.acl_json.specs.Rules.{group_rule_at, rules_at, top_rule_at}
use Rattle.acl_json.specs.declared.heads.AclHead.{AclHead}
use Rattle.acl_json.specs.declared.heads.GroupHead.{GroupHead}

-- the immunity time where a web ACL sets none, in seconds (AWS WAF Developer Guide, "CAPTCHA and Challenge token
-- immunity times")
abbrev pub default_immunity : ℕ
default_immunity = 300

-- the greatest capacity of a rule group (this project's own)
abbrev pub greatest_capacity : ℕ
greatest_capacity = 1000000

-- Allow or Block, whichever exactly one member names, Block with its code
unfoldable pub default_of : Data → List ℕ → Result Decision ReadFault
default_of d path = if named_count (codes "Allow" ∷ codes "Block" ∷ []) d == 1
    then (if is_there (codes "Allow") d then Ok decisions.Allow else (block_code d path >>= λ code. Ok (decisions.Block code)))
    else Err (faults.Action path)

abbrev pub needed_default : Option Data → List ℕ → Result Decision ReadFault
needed_default None path = Err (faults.Action path)
needed_default (Some found) path = default_of found path

-- `DefaultAction`
unfoldable pub default_at : Data → List ℕ → Result Decision ReadFault
default_at d path = optional_at d (codes "DefaultAction") path >>= λ found. needed_default found (member_path path (codes "DefaultAction"))

-- the members of a web ACL before its rules, in this order
unfoldable pub acl_head_at : Data → List ℕ → Result AclHead ReadFault
acl_head_at d path = do
  name ← name_at d path
  arn ← optional_text_at d (codes "ARN") path
  namespace ← namespace_at (codes ":webacl:") d arn name path
  default ← default_at d path
  captcha ← immunity_at (codes "CaptchaConfig") d path
  challenge ← immunity_at (codes "ChallengeConfig") d path
  body_limit ← body_limit_at d path
  Ok (record { name = name; namespace = namespace; default = default; captcha = captcha; challenge = challenge; body_limit = body_limit })

-- a web ACL, among the pattern sets of the bundle, after so many statements; and how many statements were read then
unfoldable pub acl_of : List RegexSet → Encoding → Data → List ℕ → ℕ → Result (Acl × ℕ) ReadFault
acl_of sets encoding d path seen = do
  head ← acl_head_at d path
  rules ← rules_at (top_rule_at sets encoding) (λ rule. rule.priority) d path seen
  Ok (record { name = head.name; namespace = head.namespace; default = head.default; captcha = unwrap_or head.captcha default_immunity; challenge = unwrap_or head.challenge default_immunity; body_limit = head.body_limit; rules = rules.0 }, rules.1)

-- the namespace of a rule group
unfoldable pub group_namespace_at : Data → List ℕ → List ℕ → List ℕ → Result (List ℕ) ReadFault
group_namespace_at d arn name path = namespace_at (codes ":rulegroup:") d (Some arn) name path

-- the members of a rule group before its rules, in this order
unfoldable pub group_head_at : Data → List ℕ → Result GroupHead ReadFault
group_head_at d path = do
  arn ← text_member_at d (codes "ARN") path
  name ← name_at d path
  namespace ← group_namespace_at d arn name path
  capacity ← whole_member_at d (codes "Capacity") 0 greatest_capacity path
  Ok (record { arn = arn; name = name; namespace = namespace; capacity = capacity })

-- a rule group, among the pattern sets of the bundle, after so many statements; and how many statements were read then
unfoldable pub group_of : List RegexSet → Encoding → Data → List ℕ → ℕ → Result (Group × ℕ) ReadFault
group_of sets encoding d path seen = do
  head ← group_head_at d path
  rules ← rules_at (group_rule_at sets encoding head.name) (λ rule. rule.priority) d path seen
  Ok (record { arn = head.arn; name = head.name; namespace = head.namespace; capacity = head.capacity; rules = rules.0 }, rules.1)

-- `WebACL` of a bundle, before what it refers to is looked up
abbrev pub top_acl : Option Data → Result Acl ReadFault
top_acl None = Err faults.Json
top_acl (Some d) = do
  found ← member_at d (codes "WebACL") (codes "$")
  acl ← acl_of [] encodings.Base64 found (member_path (codes "$") (codes "WebACL")) 0
  Ok acl.0

-- what the bytes of a bundle are read as, as far as its web ACL goes
unfoldable pub acl_reading : List ℕ → Result Acl ReadFault
acl_reading bytes = top_acl (parsed bytes)
