use Rattle.match_eval.proofs.range_cover.RangeCover.has.Goals as goal

pub returns : goal.returns
returns c =
    let same = c.self.invariant c.args.address.now in
    rw (← c.self.view_is) (λ yes. same.0 (c.holds.ensures.0 yes), λ inside. c.holds.ensures.1 (same.1 inside))
