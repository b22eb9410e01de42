use Rattle.std.proofs.Common.{subst}
use Rattle.std.specs.Cmp.Lexicographic.{slice_cmp}
use Rattle.std.specs.Ordering.{is_lt, nat_cmp}
use Rattle.std.specs.Prelude.{AllPairs, IsTrue}
use Rattle.label_scope.proofs.Inserts.{ascending}
use Rattle.label_scope.proofs.label_set.Labels.sorted.Goals as goal

pub returns-clause-ascend : goal.returns-clause-ascend
returns-clause-ascend c = subst (λ l. AllPairs (λ a b. IsTrue (is_lt (slice_cmp nat_cmp a b))) l) c.self.view_is
    (ascending (λ t. t.items) c.self.inside.texts.keys c.iter.ensures.ordered)
