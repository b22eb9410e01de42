use Rattle.set_json.proofs.Wholes.{whole_of}
use Rattle.set_json.proofs.bundle.bundle_of.Goals as goal

pub returns-in-None-clause-whole : goal.returns-in-None-clause-whole
returns-in-None-clause-whole c =
    let is = c.in_ok-bundle.ensures in
    whole_of c.in_ok-bundle.bundle is.ordered is.acl is.groups is.limits is.statements c.in-None.ensures
