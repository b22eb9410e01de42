use Rattle.std.proofs.Common.{◌+◌}
use Rattle.waf_model.specs.declared.pattern.Pattern.{Pattern}
use Rattle.pattern_match.specs.Marks.{marked}
use Rattle.pattern_match.specs.Searches.{IsSearchOf}
use Rattle.pattern_match.specs.Traces.{parts}
use Rattle.pattern_match.proofs.Searching.{Searched}
use Rattle.pattern_match.proofs.finding.Search.found_in.Given as goal

abbrev pub invariant-loop-at : goal.invariant-loop-at
invariant-loop-at l = (p : Pattern) → IsSearchOf p l.self → Searched p l.text (marked l.self.matcher (parts l.trace) l.before) (l.at + 1)
