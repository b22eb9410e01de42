-- A bundle whose parts are sound, and that misses nothing, is whole.
use Rattle.std.proofs.Common.{◌≡◌, ◌≤◌, None, All, IsTrue}
use Rattle.waf_model.specs.Cost.{is_limited_top}
use Rattle.waf_model.specs.StatementCount.{bundle_count}
use Rattle.waf_model.specs.WebAcl.{IsSound, IsSoundGroup}
use Rattle.waf_model.specs.WholeBundle.{IsWhole}
use Rattle.waf_model.specs.declared.bundle.Bundle.{Bundle}
use Rattle.set_json.specs.Missing.{missing_of}
use Rattle.set_json.specs.Whole.{IsOrderedSet}
use Rattle.set_json.proofs.Listed.{has_all}

pub whole_of : (bundle : Bundle) → All IsOrderedSet bundle.regex_sets → IsSound bundle.acl → All IsSoundGroup bundle.groups → All (λ top. IsTrue (is_limited_top top.body)) bundle.acl.rules
    → bundle_count bundle ≤ 20000 → None ≡ missing_of bundle → IsWhole bundle
whole_of bundle ordered acl groups limits statements none =
    let listed = has_all bundle none in
    record { acl = acl; groups = groups; patterns = ordered; acl_references = listed.acl_references; group_references = listed.group_references; counted = record { statements = statements; limits = limits } }
