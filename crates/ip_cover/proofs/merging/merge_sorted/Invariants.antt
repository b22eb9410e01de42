use Rattle.std.proofs.Common.{◌≡◌, ◌++◌, drop}
use Rattle.ip_cover.specs.Merged.{merged_from, merged_of}
use Rattle.ip_cover.proofs.merging.merge_sorted.Given as goal

-- what is merged so far, with what the rest gives, is what all give
abbrev pub invariant-loop-span : goal.invariant-loop-span
invariant-loop-span l = l.merged.items ++ merged_from l.wider (drop l.span-index l.rest) ≡ merged_of l.fn.spans
