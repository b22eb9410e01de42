use Rattle.std.proofs.Common.{◌≡◌, ◌++◌, drop, false}
use Rattle.text_transform.proofs.CommandLine.{unwritten}
use Rattle.text_transform.proofs.spaces.command_line.Given as goal

-- what is written and what is still to be written are the whole
abbrev pub invariant-loop-byte : goal.invariant-loop-byte
invariant-loop-byte l = l.text.items ++ unwritten l.spaced (drop l.byte-index l.w) ≡ unwritten false l.w
