-- How a statement is read (API type `Statement`): its tests come in the order of the definitions, and each statement
-- counts as one before its content.
use Rattle.std.specs.Prelude.{ℕ, zero, suc, ◌+◌, List, [], ◌∷◌, codes, ◌==◌, nat_lt, if◌then◌else◌, Option, Some, None, Result, Ok, Err}
use Rattle.serde_json.specs.Data.{Data}
use Rattle.json_view.specs.Words.{ensured, list_member_at, object_at}
use Rattle.waf_model.specs.Gives.{◌>>=◌}
use Rattle.waf_model.specs.Json.{index_path, member_at, member_count, member_path}
use Rattle.waf_model.specs.declared.read_fault.ReadFault.{ReadFault}
use Rattle.waf_model.specs.declared.read_fault.ReadFault.TheVariants as faults
use Rattle.waf_model.specs.declared.sets.RegexSet.{RegexSet}
use Rattle.waf_model.specs.declared.statement.Statement.{Statement}
use Rattle.waf_model.specs.declared.statement.Statement.TheVariants as statements
use Rattle.statement_json.specs.Kinds.{kind_of, member_of, is_top_kind}
use Rattle.statement_json.specs.Matches.{opaque, byte_match_of, size_of, regex_of, pattern_set_of, sql_injection_of, cross_site_of}
use Rattle.statement_json.specs.References.{ip_set_of, label_match_of}
use Rattle.statement_json.specs.declared.encoding.Encoding.{Encoding}
use Rattle.statement_json.specs.declared.statement_kind.StatementKind.{StatementKind}
use Rattle.statement_json.specs.declared.statement_kind.StatementKind.TheVariants as kinds

-- a bundle has at most so many statements (this project's own)
abbrev pub most_statements : ℕ
most_statements = 20000

-- A statement at a path, where so many were read before: what it is read as, and how many were read then.
abbrev pub Reading : Type 0
Reading = Data → List ℕ → ℕ → Result (Statement × ℕ) ReadFault

-- a statement is an object with exactly one member, and not the one that is too many; then it counts
abbrev pub opened : Data → List ℕ → ℕ → Result ℕ ReadFault
opened d path seen = do
  object ← object_at d path
  one ← ensured (member_count d == 1) (faults.OneStatement path)
  fits ← ensured (nat_lt seen most_statements) (faults.Limit path most_statements)
  Ok (seen + 1)

-- a question whose value is an object that is unread; it costs 1
abbrev pub located : Data → Data → List ℕ → List ℕ → Result Statement ReadFault
located d found path at = object_at found at >>= λ object. opaque d (Some 1) None path

-- A statement that is made of no others, of that kind: `d` at `path`, its value `found` at `at`.
abbrev pub leaf : List RegexSet → Encoding → StatementKind → Data → Data → List ℕ → List ℕ → Result Statement ReadFault
leaf sets encoding kinds.ByteMatch d found path at = byte_match_of encoding d found path at
leaf sets encoding kinds.SizeConstraint d found path at = size_of d found path at
leaf sets encoding kinds.RegexMatch d found path at = regex_of d found path at
leaf sets encoding kinds.RegexPatternSetReference d found path at = pattern_set_of sets d found path at
leaf sets encoding kinds.IpSetReference d found path at = ip_set_of found at
leaf sets encoding kinds.LabelMatch d found path at = label_match_of found at
leaf sets encoding kinds.SqliMatch d found path at = sql_injection_of d found path at
leaf sets encoding kinds.XssMatch d found path at = cross_site_of d found path at
leaf sets encoding kinds.GeoMatch d found path at = located d found path at
leaf sets encoding kinds.AsnMatch d found path at = located d found path at
leaf sets encoding other d found path at = Err (faults.Nested path)

-- the statements of a list from that index on, and how many were read then
abbrev pub parts_from : Reading → ℕ → List Data → List ℕ → ℕ → Result (List Statement × ℕ) ReadFault
parts_from inner index [] path seen = Ok ([], seen)
parts_from inner index (d ∷ ds) path seen = do
  one ← inner d (index_path path index) seen
  rest ← parts_from inner (index + 1) ds path one.1
  Ok (one.0 ∷ rest.0, rest.1)

-- `Statements`
abbrev pub parts_at : Reading → Data → List ℕ → ℕ → Result (List Statement × ℕ) ReadFault
parts_at inner d path seen = list_member_at d (codes "Statements") path >>= λ all. parts_from inner 0 all (member_path path (codes "Statements")) seen

-- `Statement`
abbrev pub part_at : Reading → Data → List ℕ → ℕ → Result (Statement × ℕ) ReadFault
part_at inner d path seen = member_at d (codes "Statement") path >>= λ found. inner found (member_path path (codes "Statement")) seen

-- A statement of that kind whose parts are read by `inner`.
abbrev pub of_kind : Reading → List RegexSet → Encoding → StatementKind → Data → Data → List ℕ → List ℕ → ℕ → Result (Statement × ℕ) ReadFault
of_kind inner sets encoding kinds.And d found path at seen = parts_at inner found at seen >>= λ parts. Ok (statements.And parts.0, parts.1)
of_kind inner sets encoding kinds.Or d found path at seen = parts_at inner found at seen >>= λ parts. Ok (statements.Or parts.0, parts.1)
of_kind inner sets encoding kinds.Not d found path at seen = part_at inner found at seen >>= λ part. Ok (statements.Not part.0, part.1)
of_kind inner sets encoding kind d found path at seen = leaf sets encoding kind d found path at >>= λ statement. Ok (statement, seen)

-- a statement of a kind that stands not only at the top of a rule
abbrev pub of_inner_kind : Reading → List RegexSet → Encoding → StatementKind → Data → List ℕ → ℕ → Result (Statement × ℕ) ReadFault
of_inner_kind inner sets encoding kind d path seen =
    if is_top_kind kind then Err (faults.Nested path)
    else (member_at d (member_of kind) path >>= λ found. of_kind inner sets encoding kind d found path (member_path path (member_of kind)) seen)

-- a statement of a kind that is known, or else an answer
abbrev pub of_some_kind : Reading → List RegexSet → Encoding → Option StatementKind → Data → List ℕ → ℕ → Result (Statement × ℕ) ReadFault
of_some_kind inner sets encoding None d path seen = opaque d None None path >>= λ statement. Ok (statement, seen)
of_some_kind inner sets encoding (Some kind) d path seen = of_inner_kind inner sets encoding kind d path seen

-- A statement that is part of another, and whose parts are read by `inner`.
abbrev pub statement_by : Reading → List RegexSet → Encoding → Reading
statement_by inner sets encoding d path seen = opened d path seen >>= λ now. of_some_kind inner sets encoding (kind_of d) d path now

-- A statement with so many levels of statements at most. A text that serde_json reads has fewer than 128 levels of
-- values, so that bound is never met by one.
unfoldable pub statement_within : ℕ → List RegexSet → Encoding → Reading
statement_within zero sets encoding d path seen = Err (faults.Shape path)
statement_within (suc levels) sets encoding d path seen = statement_by (statement_within levels sets encoding) sets encoding d path seen
