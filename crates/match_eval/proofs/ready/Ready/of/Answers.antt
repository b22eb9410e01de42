use Rattle.match_eval.proofs.ready.Ready.of.Goals as goal

pub returns : goal.returns
returns c bundle are = record { same = c.in_ok-prepared.ensures bundle are }
