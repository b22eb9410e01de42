use Rattle.std.proofs.Common.{◌≡◌, ◌≤◌, ◌++◌, IfSome, Ok}
use Rattle.std.specs.Prelude.{option_to_list}
use Rattle.serde_json.specs.View.{members_view}
use Rattle.waf_model.specs.Gives.{◌>>=◌}
use Rattle.waf_model.specs.WebAcl.{greatest_body_limit}
use Rattle.acl_json.specs.BodyLimit.{least_limit, least_of_read, limits_of}
use Rattle.acl_json.proofs.body_limit.least_of.Given as goal

-- the least limit so far, in front of the limits of the members that are left, has the least of all
abbrev pub invariant-loop-name : goal.invariant-loop-name
invariant-loop-name l =
    IfSome l.least (λ limit. limit ≤ greatest_body_limit)
    × ((limits_of (members_view l.name-iterator) l.path >>= λ others. Ok (least_limit (option_to_list l.least ++ others)))
    ≡ least_of_read (limits_of (members_view l.members.entries) l.path))
