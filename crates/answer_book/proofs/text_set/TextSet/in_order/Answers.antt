use Rattle.std.proofs.Common.{subst}
use Rattle.std.specs.List.Sorted.{IsStrictlySortedBy}
use Rattle.answer_book.specs.Keys.{text_order}
use Rattle.answer_book.proofs.Inserted.{sorted_views}
use Rattle.answer_book.proofs.text_set.TextSet.in_order.Goals as goal

pub returns-in_err-of-clause-ascend : goal.returns-in_err-of-clause-ascend
returns-in_err-of-clause-ascend c = subst (λ l. IsStrictlySortedBy text_order l) c.self.view_is (sorted_views (λ t. t.items) text_order c.self.inside.texts.keys c.iter-text-items.ensures.ordered)

pub returns-in_err-push-clause-ascend : goal.returns-in_err-push-clause-ascend
returns-in_err-push-clause-ascend c = subst (λ l. IsStrictlySortedBy text_order l) c.self.view_is (sorted_views (λ t. t.items) text_order c.self.inside.texts.keys c.iter-text-items.ensures.ordered)

pub returns-clause-ascend : goal.returns-clause-ascend
returns-clause-ascend c = subst (λ l. IsStrictlySortedBy text_order l) c.self.view_is (sorted_views (λ t. t.items) text_order c.self.inside.texts.keys c.iter-text-items.ensures.ordered)
