use Rattle.std.proofs.Common.{◌≡◌, ◌++◌, drop}
use Rattle.std.specs.List.{flat_map}
use Rattle.waf_model.specs.Shown.{of_header}
use Rattle.request_parts.proofs.showing.each_header.Given as goal

-- those so far, with those of the headers that are left, are all
abbrev pub invariant-loop-header : goal.invariant-loop-header
invariant-loop-header l = l.parts ++ flat_map (of_header l.filter l.part) (drop l.header-index l.headers) ≡ flat_map (of_header l.filter l.part) l.headers
