use Rattle.std.proofs.Common.{◌≡◌, ◌++◌, take}
use Rattle.std.specs.List.{flat_map}
use Rattle.wafreview_run.specs.ImpactText.{change_line}
use Rattle.wafreview_run.proofs.impact_text.push_changes.Given as goal

-- the lines of the changes so far are written
abbrev pub invariant-loop-change : goal.invariant-loop-change
invariant-loop-change l = l.text ≡ l.fn.text ++ flat_map change_line (take l.change-index l.changes)
