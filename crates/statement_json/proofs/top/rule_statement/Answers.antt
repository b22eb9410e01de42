use Rattle.std.proofs.lemmas.Result.{IfOk-weaker}
use Rattle.serde_json.specs.View.{view}
use Rattle.statement_json.proofs.TopsKept.{rule_returned}
use Rattle.statement_json.proofs.top.rule_statement.Goals as goal

pub returns-clause-counted : goal.returns-clause-counted
returns-clause-counted c =
    IfOk-weaker c.rule_kind.result _ _ (λ statement kept. kept.counted)
    (rule_returned c.args.sets.now c.args.encoding c.args.group.now c.args.rule.now c.kind_of-kind.result (view c.args.v.now) c.args.path.now c.args.seen.now c.opened.new.seen c.rule_kind.new.seen c.rule_kind.result
    c.in_ok-opened.ensures.reading c.rule_kind.ensures.reading)

pub returns-clause-sound : goal.returns-clause-sound
returns-clause-sound c =
    IfOk-weaker c.rule_kind.result _ _ (λ statement kept. kept.sound)
    (rule_returned c.args.sets.now c.args.encoding c.args.group.now c.args.rule.now c.kind_of-kind.result (view c.args.v.now) c.args.path.now c.args.seen.now c.opened.new.seen c.rule_kind.new.seen c.rule_kind.result
    c.in_ok-opened.ensures.reading c.rule_kind.ensures.reading)

pub returns-clause-limited : goal.returns-clause-limited
returns-clause-limited c =
    IfOk-weaker c.rule_kind.result _ _ (λ statement kept. kept.limited)
    (rule_returned c.args.sets.now c.args.encoding c.args.group.now c.args.rule.now c.kind_of-kind.result (view c.args.v.now) c.args.path.now c.args.seen.now c.opened.new.seen c.rule_kind.new.seen c.rule_kind.result
    c.in_ok-opened.ensures.reading c.rule_kind.ensures.reading)
