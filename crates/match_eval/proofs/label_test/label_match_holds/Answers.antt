use Rattle.waf_model.specs.LabelMatch.{label_holds}
use Rattle.match_eval.proofs.Among.{any_is}
use Rattle.match_eval.proofs.label_test.label_match_holds.Goals as goal

pub returns : goal.returns
returns c = any_is (label_holds c.args.scope c.args.key.now c.args.namespace.now) c.args.seen.now c.any.result c.any.ensures
