-- The answers to questions from outside (this project's own): the answer to a key is the first entry with that key.
use Rattle.std.specs.Prelude.{ℕ, List, [], find, Bool, true, false, ◌&&◌, ◌==◌, Option, Some, None}
use Rattle.std.specs.Option.{option_map_or}
use Rattle.std.specs.Str.{bytes_eq}
use Rattle.waf_model.specs.declared.answers.Answers.{Answers}
use Rattle.waf_model.specs.declared.answers.GroupAnswer.{GroupAnswer}
use Rattle.waf_model.specs.declared.answers.TokenAnswer.{TokenAnswer}
use Rattle.waf_model.specs.declared.answers.TokenKey.{TokenKey}
use Rattle.waf_model.specs.declared.answers.TokenKind.{TokenKind}
use Rattle.waf_model.specs.declared.answers.TokenKind.TheVariants as kinds

-- a statement's truth; without an answer it is false
abbrev pub statement_answer : Answers → List ℕ → Bool
statement_answer answers key = option_map_or (λ answer. answer.holds) (find (λ answer. bytes_eq answer.key key) answers.statements) false

-- the answer of a managed rule group, if there is one; without one its verdict is Nothing, and it adds no label
abbrev pub group_answer : Answers → List ℕ → Option GroupAnswer
group_answer answers key = find (λ answer. bytes_eq answer.key key) answers.groups

abbrev pub is_captcha : TokenKind → Bool
is_captcha kinds.Captcha = true
is_captcha kinds.Challenge = false

abbrev pub same_kind : TokenKind → TokenKind → Bool
same_kind kinds.Captcha other = is_captcha other
same_kind kinds.Challenge kinds.Captcha = false
same_kind kinds.Challenge kinds.Challenge = true

-- whether the token of that kind and immunity time is valid; without an answer it isn't
abbrev pub token_answer : Answers → TokenKey → Bool
token_answer answers key =
    option_map_or (λ answer. answer.valid) (find (λ answer. same_kind answer.kind key.kind && answer.immunity == key.immunity) answers.tokens) false
