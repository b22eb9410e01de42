-- The pattern that a search is for.
use Rattle.waf_model.specs.Pattern.{expression}
use Rattle.waf_model.specs.declared.pattern.Pattern.{Pattern}
use Rattle.pattern_match.specs.declared.finding.Search.{Search}
use Rattle.pattern_match.specs.Shapes.{IsMatcherOf, unrolled}

-- the search is for the pattern
pub record IsSearchOf (p : Pattern) (s : Search) : Type 0 where
  pub matcher_is : IsMatcherOf (unrolled (expression p)) s.matcher
