use Rattle.ip_cover.proofs.Covering.{covers}
use Rattle.ip_cover.proofs.cover.IpCover.of.Goals as goal

pub returns : goal.returns
returns c = covers (record { v4 = c.in_ok-v4.v4; v6 = c.in_ok-v6.v6; v4_apart = c.in_ok-v4.ensures.apart; v6_apart = c.in_ok-v6.ensures.apart }) c.args.ranges.now c.in_ok-v4.ensures.same c.in_ok-v6.ensures.same
