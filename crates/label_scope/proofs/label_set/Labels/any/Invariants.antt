use Rattle.std.proofs.Common.{◌≡◌, map}
use Rattle.std.specs.List.{list_any}
use Rattle.waf_model.specs.LabelMatch.{label_holds}
use Rattle.label_scope.proofs.label_set.Labels.any.Given as goal

-- of the labels that are left some is meant just where some of all is
abbrev pub invariant-loop-text : goal.invariant-loop-text
invariant-loop-text l = list_any (label_holds l.scope l.key l.namespace) (map (λ t. t.items) l.text-iterator) ≡ list_any (label_holds l.scope l.key l.namespace) l.self
