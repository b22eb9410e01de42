use Rattle.std.proofs.Common.{◌≡◌, take, arith}
use Rattle.std.proofs.lemmas.List.{take_all}
use Rattle.parting_build.proofs.PathOnly.{alike_at_more}
use Rattle.parting_build.proofs.revisions.tried_rules.Goals as goal

pub loop-rule-preserved : goal.loop-rule-preserved
loop-rule-preserved c =
    alike_at_more c.args.old.now c.args.new.now c.args.rules.now c.loop-rule.rule-index c.rule-item.result (omega arith) c.rule-item.is c.loop-rule.invariant
    (let tried = c.in_ok-parting.ensures.none c.in-None.is in rw c.search_of_rule.ensures at tried)

pub returns-clause-none : goal.returns-clause-none
returns-clause-none c = λ _ path named is.
    let all : take c.loop-rule.rule-index c.args.rules.now ≡ c.args.rules.now = take_all c.loop-rule.rule-index c.args.rules.now (omega arith) in
    c.loop-rule.invariant path (rw all named) is
