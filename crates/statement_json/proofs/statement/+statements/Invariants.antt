use Rattle.std.proofs.Common.{◌≡◌, ◌+◌, ◌*◌, ◌≤◌, map, drop}
use Rattle.serde_json.specs.View.{view}
use Rattle.statement_json.specs.Statements.{most_statements, statement_within}
use Rattle.statement_json.proofs.Parts.{Behind}
use Rattle.statement_json.proofs.statement.+statements.Given as goal

abbrev pub decreases-statement : goal.decreases-statement
decreases-statement l = 5 * l.levels

abbrev pub decreases-parts_of : goal.decreases-parts_of
decreases-parts_of l = 5 * l.levels + 1

abbrev pub decreases-parts : goal.decreases-parts
decreases-parts l = 5 * l.levels + 2

abbrev pub decreases-part : goal.decreases-part
decreases-part l = 5 * l.levels + 2

abbrev pub decreases-of_kind : goal.decreases-of_kind
decreases-of_kind l = 5 * l.levels + 3

abbrev pub decreases-of_inner_kind : goal.decreases-of_inner_kind
decreases-of_inner_kind l = 5 * l.levels + 4

abbrev pub invariant-parts_of-loop-found : goal.invariant-parts_of-loop-found
invariant-parts_of-loop-found l =
    (l.index ≡ l.found-index) × (l.seen ≤ most_statements) × (l.initial.seen ≤ l.seen)
    × Behind (statement_within l.levels l.sets l.encoding) l.parts l.index (map view (drop l.found-index l.all)) l.seen (map view l.all) l.path l.initial.seen
