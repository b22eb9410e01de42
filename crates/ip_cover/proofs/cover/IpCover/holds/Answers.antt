use Rattle.ip_cover.proofs.Covering.{v4_answer, v6_answer}
use Rattle.ip_cover.proofs.cover.IpCover.holds.Goals as goal

pub returns-in-V4 : goal.returns-in-V4
returns-in-V4 c = v4_answer c.args.self.now c.args.address.now c.in-V4.number c.v4_has.result c.in-V4.is (rw c.as_slice.ensures.value at c.v4_has.ensures)

pub returns-in-V6 : goal.returns-in-V6
returns-in-V6 c = v6_answer c.args.self.now c.args.address.now c.in-V6.number c.v6_has.result c.in-V6.is (rw c.as_slice-in-V6.ensures.value at c.v6_has.ensures)
