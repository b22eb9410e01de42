-- How answers to opaque questions are read (this project's own).
use Rattle.std.specs.Prelude.{ℕ, List, [], ◌∷◌, codes, Bool, ◌&&◌, ◌==◌, Option, Some, None, Result, Ok, Err}
use Rattle.std.specs.List.{list_all, starts_with}
use Rattle.serde_json.specs.Data.{Data}
use Rattle.json_view.specs.Words.{each_of, ensured, optional_list_at, text_member_at, whole_member_at, word_at}
use Rattle.waf_model.specs.Gives.{◌>>=◌}
use Rattle.waf_model.specs.Json.{member_at, member_path, parsed, text_at, truth_at}
use Rattle.waf_model.specs.Letters.{is_label_byte}
use Rattle.waf_model.specs.declared.answers.Answers.{Answers}
use Rattle.waf_model.specs.declared.answers.GroupAnswer.{GroupAnswer}
use Rattle.waf_model.specs.declared.answers.StatementAnswer.{StatementAnswer}
use Rattle.waf_model.specs.declared.answers.TokenAnswer.{TokenAnswer}
use Rattle.waf_model.specs.declared.answers.TokenKind.{TokenKind}
use Rattle.waf_model.specs.declared.answers.TokenKind.TheVariants as kinds
use Rattle.waf_model.specs.declared.answers.Verdict.{Verdict}
use Rattle.waf_model.specs.declared.answers.Verdict.TheVariants as verdicts
use Rattle.waf_model.specs.declared.read_fault.ReadFault.{ReadFault}
use Rattle.waf_model.specs.declared.read_fault.ReadFault.TheVariants as faults

-- the member of that name, which must be true or false
abbrev pub truth_member_at : Data → List ℕ → List ℕ → Result Bool ReadFault
truth_member_at d name path = member_at d name path >>= λ found. truth_at found (member_path path name)

-- ---- statements

-- `Key` and `Match`
unfoldable pub statement_answer_at : Data → List ℕ → Result StatementAnswer ReadFault
statement_answer_at d path = do
  key ← text_member_at d (codes "Key") path
  holds ← truth_member_at d (codes "Match") path
  Ok (record { key = key; holds = holds })

-- `Statements`
unfoldable pub statements_at : Data → List ℕ → Result (List StatementAnswer) ReadFault
statements_at d path = optional_list_at d (codes "Statements") path >>= λ all. each_of statement_answer_at all (member_path path (codes "Statements"))

-- ---- managed rule groups

-- the words of `Verdict`
abbrev pub verdict_words : List (List ℕ × Verdict)
verdict_words =
    (codes "NONE", verdicts.Nothing) ∷ (codes "ALLOW", verdicts.Allow) ∷ (codes "BLOCK", verdicts.Block)
    ∷ (codes "CAPTCHA", verdicts.Captcha) ∷ (codes "CHALLENGE", verdicts.Challenge) ∷ []

-- `Verdict`
unfoldable pub verdict_at : Data → List ℕ → Result Verdict ReadFault
verdict_at d path = word_at d (codes "Verdict") verdict_words path

-- a label that a managed rule group may add: it begins `awswaf:managed:` and has only bytes of labels, and any length
-- (AWS WAF Developer Guide, "Label syntax and naming requirements")
abbrev pub is_managed_label : List ℕ → Bool
is_managed_label text = starts_with ◌==◌ text (codes "awswaf:managed:") && list_all is_label_byte text

-- an element of `Labels`
unfoldable pub label_at : Data → List ℕ → Result (List ℕ) ReadFault
label_at d path = do
  text ← text_at d path
  labelled ← ensured (is_managed_label text) (faults.Name path)
  Ok text

-- `Labels`
unfoldable pub labels_at : Data → List ℕ → Result (List (List ℕ)) ReadFault
labels_at d path = optional_list_at d (codes "Labels") path >>= λ all. each_of label_at all (member_path path (codes "Labels"))

-- `Key`, `Verdict` and `Labels`
unfoldable pub group_answer_at : Data → List ℕ → Result GroupAnswer ReadFault
group_answer_at d path = do
  key ← text_member_at d (codes "Key") path
  verdict ← verdict_at d path
  labels ← labels_at d path
  Ok (record { key = key; verdict = verdict; labels = labels })

-- `Groups`
unfoldable pub groups_at : Data → List ℕ → Result (List GroupAnswer) ReadFault
groups_at d path = optional_list_at d (codes "Groups") path >>= λ all. each_of group_answer_at all (member_path path (codes "Groups"))

-- ---- tokens

-- the words of `Kind`
abbrev pub kind_words : List (List ℕ × TokenKind)
kind_words = (codes "CAPTCHA", kinds.Captcha) ∷ (codes "CHALLENGE", kinds.Challenge) ∷ []

-- `Kind`
unfoldable pub kind_at : Data → List ℕ → Result TokenKind ReadFault
kind_at d path = word_at d (codes "Kind") kind_words path

-- the longest immunity time, in seconds (this project's own)
abbrev pub longest_immunity : ℕ
longest_immunity = 1000000000

-- `Kind`, `ImmunityTime` and `Valid`
unfoldable pub token_answer_at : Data → List ℕ → Result TokenAnswer ReadFault
token_answer_at d path = do
  kind ← kind_at d path
  immunity ← whole_member_at d (codes "ImmunityTime") 1 longest_immunity path
  valid ← truth_member_at d (codes "Valid") path
  Ok (record { kind = kind; immunity = immunity; valid = valid })

-- `Tokens`
unfoldable pub tokens_at : Data → List ℕ → Result (List TokenAnswer) ReadFault
tokens_at d path = optional_list_at d (codes "Tokens") path >>= λ all. each_of token_answer_at all (member_path path (codes "Tokens"))

-- ---- the whole

-- the members of answers, in this order
unfoldable pub answers_at : Data → List ℕ → Result Answers ReadFault
answers_at d path = do
  statements ← statements_at d path
  groups ← groups_at d path
  tokens ← tokens_at d path
  Ok (record { statements = statements; groups = groups; tokens = tokens })

-- the answers of a parsed text
abbrev pub answers_of : Option Data → Result Answers ReadFault
answers_of None = Err faults.Json
answers_of (Some d) = answers_at d (codes "$")

-- what the bytes of answers are read as
unfoldable pub answers_reading : List ℕ → Result Answers ReadFault
answers_reading bytes = answers_of (parsed bytes)
