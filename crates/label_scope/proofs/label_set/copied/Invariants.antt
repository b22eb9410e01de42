use Rattle.std.proofs.Common.{◌≡◌, ◌++◌, map}
use Rattle.label_scope.proofs.label_set.copied.Given as goal

-- those so far, with those that are left, are all
abbrev pub invariant-loop-text : goal.invariant-loop-text
invariant-loop-text l = l.copies ++ map (λ t. t.items) l.text-iterator ≡ map (λ t. t.items) l.fn.texts
