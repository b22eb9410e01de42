use Rattle.std.proofs.Common.{◌≡◌, drop}
use Rattle.waf_model.specs.Transformed.{transform_all}
use Rattle.text_transform.proofs.applied.apply_all.Given as goal

-- the transformations that are left make of the text so far what all make of the text
abbrev pub invariant-loop-t : goal.invariant-loop-t
invariant-loop-t l = transform_all (drop l.t-index l.others) l.text.items ≡ transform_all l.fn.ts l.fn.w
