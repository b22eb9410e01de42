use Rattle.std.proofs.Common.{◌≡◌, map, take}
use Rattle.match_eval.specs.Ready.{condition_of}
use Rattle.match_eval.specs.Sets.{AreSetsOf}
use Rattle.waf_model.specs.Holds.{condition}
use Rattle.waf_model.specs.declared.bundle.Bundle.{Bundle}
use Rattle.match_eval.proofs.preparing.+prepare.Given as goal

-- the statements so far are prepared, each for its condition
abbrev pub invariant-all_prepared-loop-part : goal.invariant-all_prepared-loop-part
invariant-all_prepared-loop-part l =
    (bundle : Bundle) → AreSetsOf bundle l.sets → map condition_of l.all ≡ map (condition bundle) (take l.part-index l.parts)
