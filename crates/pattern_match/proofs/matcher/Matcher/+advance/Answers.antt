use Rattle.pattern_match.proofs.Idling.{idle_moves}
use Rattle.pattern_match.proofs.matcher.Matcher.+advance.Goals as goal

pub advance-returns-then-is_idle : goal.advance-returns-then-is_idle
advance-returns-then-is_idle t c sound =
    idle_moves c.args.self.now c.args.trace.now c.args.entered c.args.step.now (c.is_idle.ensures c.if-is_idle.true sound)
