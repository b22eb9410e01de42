use Rattle.std.proofs.Common.{◌++◌, codes, decimal}
use Rattle.json_text.proofs.Pushed.{pushed}
use Rattle.wafreview_run.proofs.impact_text.push_counts.Goals as goal

pub returns : goal.returns
returns c =
    let text = c.args.text.now in
    let lines = codes "impact lines " ++ decimal c.args.lines in
    let named = lines ++ codes " changed " in
    pushed text c.push_number-2.new.self c.push-3.new.self (named ++ decimal c.args.changed) (codes "\n")
    (pushed text c.push-2.new.self c.push_number-2.new.self named (decimal c.args.changed)
    (pushed text c.push_number.new.self c.push-2.new.self lines (codes " changed ")
    (pushed text c.push.new.self c.push_number.new.self (codes "impact lines ") (decimal c.args.lines) c.in_ok-push.ensures.ok c.in_ok-push_number.ensures.ok)
    c.in_ok-push-2.ensures.ok)
    c.in_ok-push_number-2.ensures.ok)
    c.in_ok-push-3.ensures.ok
