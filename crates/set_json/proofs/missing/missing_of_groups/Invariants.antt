use Rattle.std.proofs.Common.{◌≡◌, drop}
use Rattle.set_json.specs.Missing.{missing_of_groups}
use Rattle.set_json.proofs.missing.missing_of_groups.Given as goal

-- what the rest misses first is what all miss first
abbrev pub invariant-loop-group : goal.invariant-loop-group
invariant-loop-group l = missing_of_groups l.bundle (drop l.group-index l.groups) ≡ missing_of_groups l.bundle l.groups
