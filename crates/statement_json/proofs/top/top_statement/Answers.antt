use Rattle.std.proofs.lemmas.Result.{IfOk-weaker}
use Rattle.serde_json.specs.View.{view}
use Rattle.statement_json.proofs.TopsKept.{top_returned}
use Rattle.statement_json.proofs.top.top_statement.Goals as goal

pub returns-clause-counted : goal.returns-clause-counted
returns-clause-counted c =
    IfOk-weaker c.top_kind.result _ _ (λ top kept. kept.counted)
    (top_returned c.args.sets.now c.args.encoding c.args.rule.now c.kind_of-kind.result (view c.args.v.now) c.args.path.now c.args.seen.now c.opened.new.seen c.top_kind.new.seen c.top_kind.result
    c.in_ok-opened.ensures.reading c.top_kind.ensures.reading)

pub returns-clause-sound : goal.returns-clause-sound
returns-clause-sound c =
    IfOk-weaker c.top_kind.result _ _ (λ top kept. kept.sound)
    (top_returned c.args.sets.now c.args.encoding c.args.rule.now c.kind_of-kind.result (view c.args.v.now) c.args.path.now c.args.seen.now c.opened.new.seen c.top_kind.new.seen c.top_kind.result
    c.in_ok-opened.ensures.reading c.top_kind.ensures.reading)

pub returns-clause-limited : goal.returns-clause-limited
returns-clause-limited c =
    IfOk-weaker c.top_kind.result _ _ (λ top kept. kept.limited)
    (top_returned c.args.sets.now c.args.encoding c.args.rule.now c.kind_of-kind.result (view c.args.v.now) c.args.path.now c.args.seen.now c.opened.new.seen c.top_kind.new.seen c.top_kind.result
    c.in_ok-opened.ensures.reading c.top_kind.ensures.reading)
