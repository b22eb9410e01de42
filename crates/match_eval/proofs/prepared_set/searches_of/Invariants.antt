use Rattle.std.proofs.Common.{◌≡◌, take}
use Rattle.match_eval.proofs.prepared_set.searches_of.Given as goal

-- the patterns so far are prepared
abbrev pub invariant-loop-pattern : goal.invariant-loop-pattern
invariant-loop-pattern l = l.all.items ≡ take l.pattern-index l.patterns
