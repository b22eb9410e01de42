use Rattle.std.proofs.Common.{◌≡◌, ◌++◌, take}
use Rattle.std.specs.List.{flat_map}
use Rattle.waf_model.specs.Printed.{label_line}
use Rattle.acl_eval.proofs.writing.write_labels.Given as goal

-- the lines of the labels so far are written
abbrev pub invariant-loop-label : goal.invariant-loop-label
invariant-loop-label l = l.text ≡ l.fn.text ++ flat_map label_line (take l.label-index l.labels)
