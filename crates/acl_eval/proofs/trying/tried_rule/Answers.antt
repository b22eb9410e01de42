use Rattle.std.proofs.Common.{inl, inr, refl, sym, ◌∙◌}
use Rattle.std.proofs.lemmas.Bool.{false≢true}
use Rattle.acl_eval.proofs.trying.tried_rule.Goals as goal

pub returns-then-not-branch : goal.returns-then-not-branch
returns-then-not-branch c = λ prepared. inr (record {
  fails = λ matches. false≢true (sym c.if-not-branch.true ∙ (c.in_ok-holds.ensures c.args.ready.now.rule.now.statement prepared).1 matches);
  stays = refl;
  undecided = refl;
})

pub returns : goal.returns
returns c = λ prepared. inl (record {
  matches = (c.in_ok-holds.ensures c.args.ready.now.rule.now.statement prepared).0 c.if-not-branch.false;
  added = rw c.as_slice-added.ensures at c.in_ok-add_qualified.ensures;
  decided_so = c.end_of.ensures;
})
