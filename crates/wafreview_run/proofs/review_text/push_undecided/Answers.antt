use Rattle.std.proofs.Common.{◌++◌, codes, decimal}
use Rattle.json_text.proofs.Pushed.{pushed}
use Rattle.wafreview_run.proofs.review_text.push_undecided.Goals as goal

pub returns : goal.returns
returns c =
    pushed c.args.text.now c.push_decimal.new.text c.push-2.new.self (codes "review UNDECIDED " ++ decimal c.args.made) (codes "\n")
    (pushed c.args.text.now c.push.new.self c.push_decimal.new.text (codes "review UNDECIDED ") (decimal c.args.made) c.in_ok-push.ensures.ok c.in_ok-push_decimal.ensures)
    c.in_ok-push-2.ensures.ok
