-- Patterns whose repetitions can come so often (this project's own).
use Rattle.std.specs.Prelude.{ℕ, Bool, true, ◌&&◌, nat_le, Option, Some, None}
use Rattle.std.specs.List.{list_all}
use Rattle.waf_model.specs.declared.pattern.Pattern.{Pattern}
use Rattle.waf_model.specs.declared.pattern.Pattern.TheOpen.{Pattern-F}
use Rattle.waf_model.specs.declared.pattern.Pattern.TheFolds.{fold-Pattern}

-- the times at most, where given, are no less than those at least
abbrev pub at_most : ℕ → Option ℕ → Bool
at_most least None = true
at_most least (Some most) = nat_le least most

-- one node of a pattern, with the answer for each part in its place
abbrev pub ordered_step : Pattern-F Bool → Bool
ordered_step Pattern-F.Empty = true
ordered_step (Pattern-F.Set set) = true
ordered_step Pattern-F.Start = true
ordered_step Pattern-F.End = true
ordered_step Pattern-F.Final = true
ordered_step (Pattern-F.Seq parts) = list_all (λ b. b) parts
ordered_step (Pattern-F.Alt parts) = list_all (λ b. b) parts
ordered_step (Pattern-F.Repeat inner least most) = inner && at_most least most

-- no repetition in the pattern has `most` less than `least`
abbrev pub is_ordered : Pattern → Bool
is_ordered = fold-Pattern Bool ordered_step
