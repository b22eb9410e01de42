use Rattle.std.proofs.Common.{ap, subst, sym, ◌∙◌}
use Rattle.std.specs.List.Sorted.{IsStrictlySortedBy}
use Rattle.answer_book.specs.Keys.{token_keys, put_all, token_order}
use Rattle.answer_book.proofs.Members.{ascend}
use Rattle.answer_book.proofs.Tokens.{exact_tokens}
use Rattle.answer_book.proofs.keys.token_keys.Goals as goal

pub returns : goal.returns
returns c =
    let all = token_keys c.args.bundle.now in
    ascend token_order exact_tokens all c.in_ok-keys.keys (subst (λ l. IsStrictlySortedBy token_order l) (sym c.in_ok-keys.ensures.keys) c.in_ok-keys.ensures.ascend)
    (c.in_ok-keys.ensures.keys ∙ c.in_ok-add_token_keys.ensures ∙ ap (λ l. put_all token_order l all) c.new-found.ensures.empty)
