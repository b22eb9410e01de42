use Rattle.std.proofs.Common.{ap, subst, sym, ◌∙◌}
use Rattle.std.proofs.lemmas.Map.Lookups.{exact_bytes}
use Rattle.std.specs.List.Sorted.{IsStrictlySortedBy}
use Rattle.answer_book.specs.Keys.{statement_keys, put_all, text_order}
use Rattle.answer_book.proofs.Members.{ascend}
use Rattle.answer_book.proofs.keys.statement_keys.Goals as goal

pub returns : goal.returns
returns c =
    let all = statement_keys c.args.bundle.now in
    ascend text_order exact_bytes all c.in_ok-keys.keys (subst (λ l. IsStrictlySortedBy text_order l) (sym c.in_ok-keys.ensures.texts) c.in_ok-keys.ensures.ascend)
    (c.in_ok-keys.ensures.texts ∙ c.in_ok-add_statement_keys.ensures ∙ ap (λ l. put_all text_order l all) c.new-found.ensures)
