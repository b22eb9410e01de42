use Rattle.std.proofs.Common.{◌≡◌, ◌∷◌, ◌++◌, take}
use Rattle.std.specs.List.{flat_map}
use Rattle.text_transform.proofs.paths.push_joined.Given as goal

-- the segments so far are written, each behind a slash
abbrev pub invariant-loop-segment : goal.invariant-loop-segment
invariant-loop-segment l = l.text.items ≡ l.initial.text.items ++ flat_map (λ s. 47 ∷ s.now) (take l.segment-index l.others)
