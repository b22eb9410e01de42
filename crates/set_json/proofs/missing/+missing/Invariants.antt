use Rattle.std.proofs.Common.{◌≡◌, drop}
use Rattle.set_json.proofs.Misses.{missing_of_parts}
use Rattle.set_json.proofs.missing.+missing.Given as goal

-- what the rest misses first is what all miss first
abbrev pub invariant-missing_of_parts-loop-part : goal.invariant-missing_of_parts-loop-part
invariant-missing_of_parts-loop-part l = missing_of_parts l.bundle (drop l.part-index l.parts) ≡ missing_of_parts l.bundle l.parts
