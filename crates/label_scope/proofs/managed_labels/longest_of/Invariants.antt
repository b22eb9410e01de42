use Rattle.std.proofs.Common.{◌≡◌, ◌<◌, ◌^◌, drop, fold, length, max}
use Rattle.label_scope.specs.Vocabulary.{longest_key}
use Rattle.label_scope.proofs.managed_labels.longest_of.Given as goal

-- the longest so far with the rest gives the longest of all
abbrev pub invariant-loop-one : goal.invariant-loop-one
invariant-loop-one l = (fold (λ longest one. max longest (length one.key)) l.longest (drop l.one-index l.keys) ≡ longest_key l.keys) × (l.longest < 2 ^ 63)
