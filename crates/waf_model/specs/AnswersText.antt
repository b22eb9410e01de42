-- The text of answers (this project's own). It is JSON where keys and labels are UTF-8. It is to read back as the answers
-- where besides each label begins `awswaf:managed:` and is of the alphabet of labels, and each immunity time is 1 to
-- 1,000,000,000.
use Rattle.std.specs.Prelude.{ℕ, List, ◌++◌, map, codes, decimal}
use Rattle.waf_model.specs.JsonText.{json_string, json_list, json_truth}
use Rattle.waf_model.specs.declared.answers.Answers.{Answers}
use Rattle.waf_model.specs.declared.answers.GroupAnswer.{GroupAnswer}
use Rattle.waf_model.specs.declared.answers.StatementAnswer.{StatementAnswer}
use Rattle.waf_model.specs.declared.answers.TokenAnswer.{TokenAnswer}
use Rattle.waf_model.specs.declared.answers.TokenKind.{TokenKind}
use Rattle.waf_model.specs.declared.answers.TokenKind.TheVariants as kinds
use Rattle.waf_model.specs.declared.answers.Verdict.{Verdict}
use Rattle.waf_model.specs.declared.answers.Verdict.TheVariants as verdicts

-- a verdict's name
abbrev pub verdict_name : Verdict → List ℕ
verdict_name verdicts.Nothing = codes "NONE"
verdict_name verdicts.Allow = codes "ALLOW"
verdict_name verdicts.Block = codes "BLOCK"
verdict_name verdicts.Captcha = codes "CAPTCHA"
verdict_name verdicts.Challenge = codes "CHALLENGE"

-- a token kind's name
abbrev pub kind_name : TokenKind → List ℕ
kind_name kinds.Captcha = codes "CAPTCHA"
kind_name kinds.Challenge = codes "CHALLENGE"

-- an object with these members, in this order
abbrev pub group_answer_text : GroupAnswer → List ℕ
group_answer_text group = codes "{\"Key\":" ++ json_string group.key
    ++ codes ",\"Labels\":" ++ json_list (map json_string group.labels)
    ++ codes ",\"Verdict\":" ++ json_string (verdict_name group.verdict) ++ codes "}"

-- an object with these members, in this order
abbrev pub statement_answer_text : StatementAnswer → List ℕ
statement_answer_text answer = codes "{\"Key\":" ++ json_string answer.key ++ codes ",\"Match\":" ++ json_truth answer.holds ++ codes "}"

-- an object with these members, in this order
abbrev pub token_answer_text : TokenAnswer → List ℕ
token_answer_text token = codes "{\"ImmunityTime\":" ++ decimal token.immunity
    ++ codes ",\"Kind\":" ++ json_string (kind_name token.kind)
    ++ codes ",\"Valid\":" ++ json_truth token.valid ++ codes "}"

-- an object with these members, in this order
abbrev pub answers_text : Answers → List ℕ
answers_text answers = codes "{\"Groups\":" ++ json_list (map group_answer_text answers.groups)
    ++ codes ",\"Statements\":" ++ json_list (map statement_answer_text answers.statements)
    ++ codes ",\"Tokens\":" ++ json_list (map token_answer_text answers.tokens) ++ codes "}"
