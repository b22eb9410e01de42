use Rattle.std.proofs.Common.{refl}
use Rattle.acl_eval.proofs.prepared.Prepared.of.Goals as goal

pub returns : goal.returns
returns c = λ sets. record {
  bundle_is = refl;
  rules = rw c.as_slice-tops.ensures at (c.in_ok-rules.ensures c.args.bundle.now sets);
  groups = rw c.as_slice-all.ensures at (c.in_ok-groups.ensures c.args.bundle.now sets);
}
