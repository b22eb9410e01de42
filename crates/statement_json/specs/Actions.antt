-- How actions are read (API types `RuleAction` and `DefaultAction`): exactly one member names the action; a member of
-- another name doesn't count.
use Rattle.std.specs.Prelude.{ℕ, List, [], ◌∷◌, codes, ◌==◌, if◌then◌else◌, Option, Some, None, Result, Ok, Err}
use Rattle.serde_json.specs.Data.{Data}
use Rattle.json_view.specs.Words.{is_there, named_count}
use Rattle.waf_model.specs.Gives.{◌>>=◌}
use Rattle.waf_model.specs.Json.{member_path, optional_at}
use Rattle.waf_model.specs.declared.action.Action.{Action}
use Rattle.waf_model.specs.declared.action.Action.TheVariants as actions
use Rattle.waf_model.specs.declared.read_fault.ReadFault.{ReadFault}
use Rattle.waf_model.specs.declared.read_fault.ReadFault.TheVariants as faults
use Rattle.statement_json.specs.Blocks.{block_code}

-- the action that exactly one member names, Block with its code
unfoldable pub action_of : Data → List ℕ → Result Action ReadFault
action_of d path = if named_count (codes "Allow" ∷ codes "Block" ∷ codes "Count" ∷ codes "Captcha" ∷ codes "Challenge" ∷ []) d == 1
    then (if is_there (codes "Allow") d then Ok actions.Allow
    else (if is_there (codes "Block") d then (block_code d path >>= λ code. Ok (actions.Block code))
    else (if is_there (codes "Count") d then Ok actions.Count
    else (if is_there (codes "Captcha") d then Ok actions.Captcha else Ok actions.Challenge))))
    else Err (faults.Action path)

-- an action that must be there
abbrev pub needed_action : Option Data → List ℕ → Result Action ReadFault
needed_action None path = Err (faults.Action path)
needed_action (Some found) path = action_of found path

-- the action in the member of that name
abbrev pub action_at : List ℕ → Data → List ℕ → Result Action ReadFault
action_at name d path = optional_at d name path >>= λ found. needed_action found (member_path path name)
