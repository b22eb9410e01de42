-- How label namespaces are read, and made where none is given (AWS WAF Developer Guide, "Label syntax and naming
-- requirements").
use Rattle.std.specs.Prelude.{ℕ, List, ◌++◌, length, codes, Bool, ◌&&◌, ◌==◌, if◌then◌else◌, Option, Some, None, option_and_then, Result, Ok, Err}
use Rattle.std.specs.List.{ends_with, starts_with}
use Rattle.serde_json.specs.Data.{Data}
use Rattle.json_view.specs.Words.{ensured, optional_text_at}
use Rattle.waf_model.specs.Gives.{◌>>=◌}
use Rattle.waf_model.specs.Json.{member_path}
use Rattle.waf_model.specs.Pieces.{first_piece, split_once}
use Rattle.waf_model.specs.declared.read_fault.ReadFault.{ReadFault}
use Rattle.waf_model.specs.declared.read_fault.ReadFault.TheVariants as faults

-- what stands behind the next colon
abbrev pub after_colon : List ℕ → Option (List ℕ)
after_colon text = option_and_then (λ parts. Some parts.1) (split_once 58 text)

-- the account of an ARN: its fifth part between colons, which must not be empty (AWS General Reference, "Amazon
-- Resource Names")
unfoldable pub account_of : List ℕ → Option (List ℕ)
account_of arn =
    option_and_then (λ rest. if length (first_piece 58 rest) == 0 then None else Some (first_piece 58 rest))
    (option_and_then after_colon (option_and_then after_colon (option_and_then after_colon (after_colon arn))))

-- a text begins `awswaf:` and ends in `:`, which may be the same colon
abbrev pub is_namespace : List ℕ → Bool
is_namespace text = starts_with ◌==◌ text (codes "awswaf:") && ends_with ◌==◌ text (codes ":")

-- the namespace of a web ACL or a rule group that gives none: `kind` is `:webacl:` or `:rulegroup:`
abbrev pub namespace_of : List ℕ → List ℕ → List ℕ → List ℕ
namespace_of kind account name = codes "awswaf:" ++ account ++ kind ++ name ++ codes ":"

-- the namespace that an account makes; without an account there is none
abbrev pub made_namespace : List ℕ → Option (List ℕ) → List ℕ → List ℕ → Result (List ℕ) ReadFault
made_namespace kind None name path = Err (faults.Namespace path)
made_namespace kind (Some account) name path = Ok (namespace_of kind account name)

-- a namespace that is given
abbrev pub checked_namespace : List ℕ → List ℕ → Result (List ℕ) ReadFault
checked_namespace text path = do
  formed ← ensured (is_namespace text) (faults.Namespace (member_path path (codes "LabelNamespace")))
  Ok text

-- the namespace that is given, or else the one that the ARN and the name make
abbrev pub given_namespace : List ℕ → Option (List ℕ) → Option (List ℕ) → List ℕ → List ℕ → Result (List ℕ) ReadFault
given_namespace kind None arn name path = made_namespace kind (option_and_then account_of arn) name path
given_namespace kind (Some text) arn name path = checked_namespace text path

-- `LabelNamespace`
abbrev pub namespace_at : List ℕ → Data → Option (List ℕ) → List ℕ → List ℕ → Result (List ℕ) ReadFault
namespace_at kind d arn name path = optional_text_at d (codes "LabelNamespace") path >>= λ given. given_namespace kind given arn name path
