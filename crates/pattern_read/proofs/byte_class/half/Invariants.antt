use Rattle.std.proofs.Common.{◌≡◌, ◌+◌, ◌-◌, ◌<◌, ◌^◌}
use Rattle.waf_model.specs.PatternClasses.{bits}
use Rattle.pattern_read.proofs.byte_class.half.Given as goal

abbrev pub invariant-loop-done : goal.invariant-loop-done
invariant-loop-done l = record {
  so_far : l.number ≡ bits l.spans l.fold l.negated (l.first + (128 - l.done)) l.done;
  fits : l.number < 2 ^ l.done;
}
