use Rattle.std.proofs.Common.{◌≡◌, take}
use Rattle.match_eval.proofs.sets.address_sets_of.Given as goal

-- the sets so far are prepared
abbrev pub invariant-loop-set : goal.invariant-loop-set
invariant-loop-set l = l.all.items ≡ take l.set-index l.sets
