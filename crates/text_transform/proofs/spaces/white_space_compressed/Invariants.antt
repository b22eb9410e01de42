use Rattle.std.proofs.Common.{◌≡◌, ◌++◌, drop, false}
use Rattle.text_transform.proofs.WhiteSpace.{unwritten}
use Rattle.text_transform.proofs.spaces.white_space_compressed.Given as goal

-- what is written and what is still to be written are the whole
abbrev pub invariant-loop-byte : goal.invariant-loop-byte
invariant-loop-byte l = l.text.items ++ unwritten l.in_run (drop l.byte-index l.w) ≡ unwritten false l.w
