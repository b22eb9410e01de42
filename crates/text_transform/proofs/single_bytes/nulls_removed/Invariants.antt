use Rattle.std.proofs.Common.{◌≡◌, ◌++◌, drop}
use Rattle.waf_model.specs.TransformBytes.{nulls_removed as nulls_removed_of}
use Rattle.text_transform.proofs.single_bytes.nulls_removed.Given as goal

-- what is written and what the rest gives are what the text gives
abbrev pub invariant-loop-byte : goal.invariant-loop-byte
invariant-loop-byte l = l.text.items ++ nulls_removed_of (drop l.byte-index l.w) ≡ nulls_removed_of l.w
