-- Spans in the order of their first numbers, merged where they overlap or touch.
use Rattle.std.specs.Prelude.{◌+◌, max, nat_le, List, [], ◌∷◌, if◌then◌else◌}
use Rattle.ip_cover.specs.declared.span.Span6.{Span6}

-- the first span, longer where the other goes on
abbrev pub joined : Span6 → Span6 → Span6
joined wider span = record { first = wider.first; last = max wider.last span.last }

-- the merged spans of one that may grow and of others that begin no earlier
abbrev pub merged_from : Span6 → List Span6 → List Span6
merged_from wider [] = wider ∷ []
merged_from wider (span ∷ rest) = if nat_le span.first (wider.last + 1) then merged_from (joined wider span) rest else wider ∷ merged_from span rest

abbrev pub merged_of : List Span6 → List Span6
merged_of [] = []
merged_of (span ∷ rest) = merged_from span rest
