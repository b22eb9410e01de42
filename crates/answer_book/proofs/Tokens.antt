-- Tokens that are equal by their order are the same.
use Rattle.std.proofs.Common.{◌≡◌, ℕ, ap}
use Rattle.std.proofs.lemmas.Map.Lookups.{exact_unsigned}
use Rattle.std.specs.Ordering.{match_ordering, nat_cmp}
use Rattle.std.specs.declared.cmp.Ordering.TheVariants.{Less, Equal, Greater}
use Rattle.waf_model.specs.declared.answers.TokenKey.{TokenKey}
use Rattle.waf_model.specs.declared.answers.TokenKind.{TokenKind}
use Rattle.waf_model.specs.declared.answers.TokenKind.TheVariants as kinds
use Rattle.answer_book.specs.Keys.{kind_place, token_order}

abbrev of_kind : TokenKind → ℕ → TokenKey
of_kind kind immunity = record { kind = kind; immunity = immunity }

exact_parts : (k l : TokenKind) (m n : ℕ) → match_ordering (nat_cmp (kind_place k) (kind_place l)) Less (nat_cmp m n) Greater ≡ Equal → of_kind k m ≡ of_kind l n
exact_parts kinds.Captcha kinds.Captcha m n is = ap (of_kind kinds.Captcha) (exact_unsigned m n is)
exact_parts kinds.Captcha kinds.Challenge m n is = absurd (cc)
exact_parts kinds.Challenge kinds.Captcha m n is = absurd (cc)
exact_parts kinds.Challenge kinds.Challenge m n is = ap (of_kind kinds.Challenge) (exact_unsigned m n is)

pub exact_tokens : (a b : TokenKey) → token_order a b ≡ Equal → a ≡ b
exact_tokens a b is = exact_parts a.kind b.kind a.immunity b.immunity is
