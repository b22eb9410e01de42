use Rattle.std.proofs.Common.{ℕ, ◌<◌, List, get_or}
use Rattle.waf_model.specs.Pattern.{Found}
use Rattle.match_eval.proofs.pattern_search.PatternSearch.is_found.Given as goal

-- the pattern is found in none of the texts so far
abbrev pub invariant-loop-text : goal.invariant-loop-text
invariant-loop-text l = (k : ℕ) (d : List ℕ) → k < l.text-index → Found l.self-inside.pattern.now (get_or l.texts k d) → ⊥
