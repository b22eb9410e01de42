use Rattle.std.proofs.Common.{◌≡◌, None, drop, option_map}
use Rattle.std.specs.List.{fold}
use Rattle.parting_build.specs.FirstInFile.{earlier}
use Rattle.parting_build.specs.Plain.{placed, unplain_rule}
use Rattle.parting_build.proofs.plain.first_unplain.Given as goal

-- what was found so far, with the rest, gives what the whole gives
abbrev pub invariant-loop-rule : goal.invariant-loop-rule
invariant-loop-rule l =
    fold (λ first rule. earlier first rule.place (unplain_rule rule)) (option_map placed l.first) (drop l.rule-index l.rules)
    ≡ fold (λ first rule. earlier first rule.place (unplain_rule rule)) None l.rules
