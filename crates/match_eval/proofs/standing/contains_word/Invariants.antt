use Rattle.std.proofs.Common.{ℕ, ◌<◌}
use Rattle.match_eval.specs.Standing.{IsWordAt}
use Rattle.match_eval.proofs.standing.contains_word.Given as goal

-- behind none of the fronts so far is it a word
abbrev pub invariant-loop-at : goal.invariant-loop-at
invariant-loop-at l = (k : ℕ) → k < l.at → IsWordAt l.search l.text k → ⊥
