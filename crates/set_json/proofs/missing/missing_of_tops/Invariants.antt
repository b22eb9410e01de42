use Rattle.std.proofs.Common.{◌≡◌, drop, fold, option_map}
use Rattle.waf_model.specs.References.{references_of}
use Rattle.set_json.specs.Missing.{first_missing, missing_of_acl, placed, sooner}
use Rattle.set_json.proofs.missing.missing_of_tops.Given as goal

-- the rest, after the sooner one so far, is as all
abbrev pub invariant-loop-rule : goal.invariant-loop-rule
invariant-loop-rule l =
    fold (λ found rule. sooner found (placed rule.place (first_missing l.bundle (references_of rule.body)))) (option_map (λ one. (one.0, one.1.now)) l.first) (drop l.rule-index l.rules)
    ≡ missing_of_acl l.bundle l.rules
