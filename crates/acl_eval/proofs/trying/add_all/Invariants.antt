use Rattle.std.proofs.Common.{◌≡◌, drop}
use Rattle.acl_eval.specs.Trying.{with_labels}
use Rattle.acl_eval.proofs.trying.add_all.Given as goal

abbrev pub invariant-loop-label : goal.invariant-loop-label
invariant-loop-label l = with_labels l.labels (drop l.label-index l.added) ≡ with_labels l.initial.labels l.added
