use Rattle.std.proofs.Common.{refl, rules}
use Rattle.decision_graph.specs.declared.branch.Branch.{Branch}
use Rattle.decision_graph.proofs.GrowLemmas.{Grows-unchanged, Grows-newest, StopsFull-now, lacks}
use Rattle.decision_graph.proofs.graph.Graph.node.Goals as goal

pub returns-in-Some-clause-grows : goal.returns-in-Some-clause-grows
returns-in-Some-clause-grows c = Grows-unchanged _ c.args.self.now c.args.meter.now c.in-Some.ensures.reduced

pub returns-in_err-make-clause-full : goal.returns-in_err-make-clause-full
returns-in_err-make-clause-full c =
    let b : Branch = record { var = c.args.var; hi = c.args.hi; lo = c.args.lo } in
    let full = c.in_err-make.ensures.full in
    (λ e. (lacks c.args.self.now b c.in_default.ensures.reduced c.in_default.ensures.absent, full.0 refl), λ h. search rules)

pub returns-in_err-make-clause-grows : goal.returns-in_err-make-clause-grows
returns-in_err-make-clause-grows c = Grows-unchanged _ c.args.self.now c.args.meter.now c.in_default.ensures.reduced

pub returns-in_err-make-clause-stops : goal.returns-in_err-make-clause-stops
returns-in_err-make-clause-stops c =
    let b : Branch = record { var = c.args.var; hi = c.args.hi; lo = c.args.lo } in
    λ e. StopsFull-now c.args.self.now _ c.args.meter.now c.in_default.ensures.reduced (lacks c.args.self.now b c.in_default.ensures.reduced c.in_default.ensures.absent) (c.in_err-make.ensures.full.0 refl)

pub returns-in_err-id-clause-grows : goal.returns-in_err-id-clause-grows
returns-in_err-id-clause-grows c = let same = c.in_err-id.ensures.memory in rw same (Grows-unchanged _ c.args.self.now c.args.meter.now c.in_default.ensures.reduced)

pub returns-clause-made : goal.returns-clause-made
returns-clause-made c =
    let b : Branch = record { var = c.args.var; hi = c.args.hi; lo = c.args.lo } in
    record {
      lacking = λ _. c.in_ok-make.ensures.ok;
      there = λ has. absurd (lacks c.args.self.now b c.in_default.ensures.reduced c.in_default.ensures.absent has);
    }

pub returns-clause-grows : goal.returns-clause-grows
returns-clause-grows c =
    let b : Branch = record { var = c.args.var; hi = c.args.hi; lo = c.args.lo } in
    let added = c.in_ok-id.ensures.ok in
    rw added (Grows-newest b c.args.self.now c.args.meter.now c.make.new.self c.in_default.ensures.reduced c.in_default.ensures.absent c.in_ok-make.ensures.limit c.in_ok-make.ensures.ok)
