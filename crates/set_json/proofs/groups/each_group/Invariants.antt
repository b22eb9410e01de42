use Rattle.std.proofs.Common.{◌≡◌, ◌+◌, ◌≤◌, All, map, drop, sum_by}
use Rattle.serde_json.specs.View.{view}
use Rattle.statement_json.specs.Statements.{most_statements}
use Rattle.waf_model.specs.StatementCount.{group_count}
use Rattle.waf_model.specs.WebAcl.{IsSoundGroup}
use Rattle.set_json.proofs.Behind.{Behind}
use Rattle.set_json.proofs.groups.each_group.Given as goal

abbrev pub invariant-loop-found : goal.invariant-loop-found
invariant-loop-found l =
    (l.index ≡ l.found-index) × (l.seen ≤ most_statements)
    × Behind l.sets l.encoding l.groups l.index (map view (drop l.found-index l.all)) l.seen (map view l.all) l.path l.initial.seen
    × All IsSoundGroup l.groups × (l.initial.seen + sum_by group_count l.groups ≡ l.seen)
