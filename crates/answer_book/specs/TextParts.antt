-- Fronts of the texts of answers, as they are written.
use Rattle.std.specs.Prelude.{ℕ, List, ◌++◌, map, codes, decimal}
use Rattle.waf_model.specs.AnswersText.{group_answer_text, statement_answer_text, kind_name}
use Rattle.waf_model.specs.JsonText.{json_string, json_list}
use Rattle.waf_model.specs.declared.answers.Answers.{Answers}
use Rattle.waf_model.specs.declared.answers.TokenAnswer.{TokenAnswer}

-- a token's answer up to its kind
abbrev pub up_to_kind : TokenAnswer → List ℕ
up_to_kind token = codes "{\"ImmunityTime\":" ++ decimal token.immunity ++ codes ",\"Kind\":" ++ json_string (kind_name token.kind)

-- answers up to those of statements
abbrev pub up_to_statements : Answers → List ℕ
up_to_statements answers = codes "{\"Groups\":" ++ json_list (map group_answer_text answers.groups) ++ codes ",\"Statements\":" ++ json_list (map statement_answer_text answers.statements)
