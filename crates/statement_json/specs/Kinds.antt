-- The kinds of statements (API type `Statement`), by the name of a statement's one member.
use Rattle.std.specs.Prelude.{ℕ, List, codes, Bool, true, false, if◌then◌else◌, Option, Some, None}
use Rattle.serde_json.specs.Data.{Data}
use Rattle.json_view.specs.Words.{is_there}
use Rattle.statement_json.specs.declared.statement_kind.StatementKind.{StatementKind}
use Rattle.statement_json.specs.declared.statement_kind.StatementKind.TheVariants as kinds

-- the member's name
abbrev pub member_of : StatementKind → List ℕ
member_of kinds.ByteMatch = codes "ByteMatchStatement"
member_of kinds.SizeConstraint = codes "SizeConstraintStatement"
member_of kinds.RegexMatch = codes "RegexMatchStatement"
member_of kinds.RegexPatternSetReference = codes "RegexPatternSetReferenceStatement"
member_of kinds.IpSetReference = codes "IPSetReferenceStatement"
member_of kinds.LabelMatch = codes "LabelMatchStatement"
member_of kinds.And = codes "AndStatement"
member_of kinds.Or = codes "OrStatement"
member_of kinds.Not = codes "NotStatement"
member_of kinds.RateBased = codes "RateBasedStatement"
member_of kinds.RuleGroupReference = codes "RuleGroupReferenceStatement"
member_of kinds.ManagedRuleGroup = codes "ManagedRuleGroupStatement"
member_of kinds.SqliMatch = codes "SqliMatchStatement"
member_of kinds.XssMatch = codes "XssMatchStatement"
member_of kinds.GeoMatch = codes "GeoMatchStatement"
member_of kinds.AsnMatch = codes "AsnMatchStatement"

-- which of the kinds that are made of others, or are always answers, is there
abbrev pub other_kind_of : Data → Option StatementKind
other_kind_of d =
    if is_there (codes "RateBasedStatement") d then Some kinds.RateBased
    else if is_there (codes "RuleGroupReferenceStatement") d then Some kinds.RuleGroupReference
    else if is_there (codes "ManagedRuleGroupStatement") d then Some kinds.ManagedRuleGroup
    else if is_there (codes "SqliMatchStatement") d then Some kinds.SqliMatch
    else if is_there (codes "XssMatchStatement") d then Some kinds.XssMatch
    else if is_there (codes "GeoMatchStatement") d then Some kinds.GeoMatch
    else if is_there (codes "AsnMatchStatement") d then Some kinds.AsnMatch
    else None

-- which of the kinds is there
unfoldable pub kind_of : Data → Option StatementKind
kind_of d =
    if is_there (codes "ByteMatchStatement") d then Some kinds.ByteMatch
    else if is_there (codes "SizeConstraintStatement") d then Some kinds.SizeConstraint
    else if is_there (codes "RegexMatchStatement") d then Some kinds.RegexMatch
    else if is_there (codes "RegexPatternSetReferenceStatement") d then Some kinds.RegexPatternSetReference
    else if is_there (codes "IPSetReferenceStatement") d then Some kinds.IpSetReference
    else if is_there (codes "LabelMatchStatement") d then Some kinds.LabelMatch
    else if is_there (codes "AndStatement") d then Some kinds.And
    else if is_there (codes "OrStatement") d then Some kinds.Or
    else if is_there (codes "NotStatement") d then Some kinds.Not
    else other_kind_of d

-- these stand only at the top of a rule
abbrev pub is_top_kind : StatementKind → Bool
is_top_kind kinds.RateBased = true
is_top_kind kinds.RuleGroupReference = true
is_top_kind kinds.ManagedRuleGroup = true
is_top_kind kind = false
