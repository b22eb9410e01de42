use Rattle.std.proofs.Common.{ℕ, ◌<◌, get_or, Any}
use Rattle.waf_model.specs.Pattern.{Found}
use Rattle.waf_model.specs.declared.pattern.Pattern.{Pattern}
use Rattle.match_eval.proofs.text_test.some_found.Given as goal

-- none of the patterns so far is found in any of the texts
abbrev pub invariant-loop-pattern : goal.invariant-loop-pattern
invariant-loop-pattern l = (k : ℕ) (d : Pattern) → k < l.pattern-index → Any (Found (get_or l.patterns k d)) l.texts → ⊥
