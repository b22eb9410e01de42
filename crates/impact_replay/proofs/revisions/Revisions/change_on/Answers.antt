use Rattle.impact_replay.proofs.revisions.Revisions.change_on.Goals as goal

pub returns : goal.returns
returns c = λ old new are. record {
  old_decision = c.in_ok-old.old;
  new_decision = c.in_ok-new.new;
  by_old = c.in_ok-old.ensures old are.old_prepared are.old_whole;
  by_new = c.in_ok-new.ensures new are.new_prepared are.new_whole;
  change_of = c.change_of.ensures;
}
