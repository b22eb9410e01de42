-- The text of the keys of a bundle (this project's own). Each line ends in one newline byte, 10.
use Rattle.std.specs.Prelude.{ℕ, List, ◌++◌, codes, decimal}
use Rattle.std.specs.List.{flat_map}
use Rattle.waf_model.specs.AnswersText.{kind_name}
use Rattle.waf_model.specs.declared.answers.TokenKey.{TokenKey}

-- the line of a statement whose truth is an answer
abbrev pub statement_line : List ℕ → List ℕ
statement_line key = codes "statement " ++ key ++ codes "\n"

-- the line of a managed rule group
abbrev pub group_line : List ℕ → List ℕ
group_line key = codes "group " ++ key ++ codes "\n"

-- the line of a token: its kind, and its immunity time in seconds
abbrev pub token_line : TokenKey → List ℕ
token_line token = codes "token " ++ kind_name token.kind ++ codes " " ++ decimal token.immunity ++ codes "\n"

-- a line for each statement, then for each managed rule group, then for each token
abbrev pub keys_text : List (List ℕ) → List (List ℕ) → List TokenKey → List ℕ
keys_text statements groups tokens = flat_map statement_line statements ++ flat_map group_line groups ++ flat_map token_line tokens
