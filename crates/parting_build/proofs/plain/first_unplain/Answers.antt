use Rattle.std.proofs.Common.{◌≡◌, ◌+◌, List, ◌∷◌, None, drop, option_map, subst}
use Rattle.std.specs.List.{fold}
use Rattle.waf_model.specs.declared.rule.TopRule.{TopRule}
use Rattle.parting_build.specs.FirstInFile.{earlier}
use Rattle.parting_build.specs.Plain.{placed, unplain_rule}
use Rattle.parting_build.proofs.FirstInFile.{front}
use Rattle.parting_build.proofs.plain.first_unplain.Goals as goal

pub loop-rule-preserved : goal.loop-rule-preserved
loop-rule-preserved c =
    let rules = c.args.rules.now in
    let here : drop c.loop-rule.rule-index rules ≡ c.rule-item.result ∷ drop (c.loop-rule.rule-index + 1) rules =
    front rules c.loop-rule.rule-index c.rule-item.result c.loop-rule-test.true c.rule-item.is in
    let so = subst (λ (rest : List TopRule). fold (λ first rule. earlier first rule.place (unplain_rule rule)) (option_map placed c.loop-rule.first) rest ≡ fold (λ first rule. earlier first rule.place (unplain_rule rule)) None rules) here c.loop-rule.invariant in
    rw c.lesser-first.ensures so
