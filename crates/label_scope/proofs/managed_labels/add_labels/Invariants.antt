use Rattle.std.proofs.Common.{◌≡◌, drop, flat_map}
use Rattle.label_scope.specs.Vocabulary.{labels_of_key, put_in_order}
use Rattle.label_scope.proofs.managed_labels.add_labels.Given as goal

-- those so far with those of the rest are all
abbrev pub invariant-loop-one : goal.invariant-loop-one
invariant-loop-one l =
    put_in_order l.labels (flat_map (labels_of_key l.more) (drop l.one-index l.keys)) ≡ put_in_order l.initial.labels (flat_map (labels_of_key l.more) l.keys)
