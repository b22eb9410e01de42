use Rattle.std.proofs.Common.{◌≡◌, ◌++◌, take}
use Rattle.std.specs.List.{flat_map}
use Rattle.wafreview_run.specs.KeysText.{statement_line}
use Rattle.wafreview_run.proofs.keys_text.push_statements.Given as goal

-- the lines of the keys so far are written
abbrev pub invariant-loop-key : goal.invariant-loop-key
invariant-loop-key l = l.text ≡ l.fn.text ++ flat_map statement_line (take l.key-index l.keys)
