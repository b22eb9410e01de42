-- The texts that the product prints (this project's own). Each line ends in one newline byte, 10.
use Rattle.std.specs.Prelude.{ℕ, List, [], ◌++◌, codes, decimal, ◌==◌, if◌then◌else◌}
use Rattle.std.specs.List.{flat_map}
use Rattle.waf_model.specs.AnswersText.{answers_text}
use Rattle.waf_model.specs.RequestText.{request_text}
use Rattle.waf_model.specs.declared.answers.Answers.{Answers}
use Rattle.waf_model.specs.declared.request.Request.{Request}
use Rattle.waf_model.specs.declared.action.Decision.{Decision}
use Rattle.waf_model.specs.declared.action.Decision.TheVariants.{Allow, Block, Captcha, Challenge}
use Rattle.waf_model.specs.declared.outcome.Capacity.{Capacity}
use Rattle.waf_model.specs.declared.outcome.Ender.{Ender}
use Rattle.waf_model.specs.declared.outcome.Ender.TheVariants.{Default, Rule, Inner}
use Rattle.waf_model.specs.declared.outcome.Outcome.{Outcome}

-- a decision's name; of a Block, its code in decimal too
abbrev pub decision_name : Decision → List ℕ
decision_name Allow = codes "ALLOW"
decision_name (Block code) = codes "BLOCK " ++ decimal code
decision_name Captcha = codes "CAPTCHA"
decision_name Challenge = codes "CHALLENGE"

-- the line of a decision
abbrev pub decision_line : Decision → List ℕ
decision_line decision = codes "decision " ++ decision_name decision ++ codes "\n"

-- what ended the evaluation
abbrev pub rule_line : Ender → List ℕ
rule_line Default = codes "rule default\n"
rule_line (Rule priority name) = codes "rule " ++ decimal priority ++ codes " " ++ name ++ codes "\n"
rule_line (Inner priority name inner_priority inner_name) = codes "rule " ++ decimal priority ++ codes " " ++ name ++ codes " / " ++ decimal inner_priority ++ codes " " ++ inner_name ++ codes "\n"

-- the line of a label
abbrev pub label_line : List ℕ → List ℕ
label_line label = codes "label " ++ label ++ codes "\n"

-- how many costs are unknown, where some are
abbrev pub unknown_part : ℕ → List ℕ
unknown_part unknown = if unknown == 0 then [] else codes " unknown " ++ decimal unknown

-- the known capacity, and how many costs are unknown
abbrev pub capacity_line : Capacity → List ℕ
capacity_line capacity = codes "capacity " ++ decimal capacity.known ++ unknown_part capacity.unknown ++ codes "\n"

-- the decision, what ended the evaluation, the labels, and the capacity
abbrev pub outcome_text : Outcome → Capacity → List ℕ
outcome_text outcome capacity = decision_line outcome.decision ++ rule_line outcome.ender ++ flat_map label_line outcome.labels ++ capacity_line capacity

-- ---- a review

-- two revisions decide alike
abbrev pub equal_text : List ℕ
equal_text = codes "review EQUAL\n"

-- both decisions, and the request and answers that part the revisions
abbrev pub different_text : Decision → Decision → Request → Answers → List ℕ
different_text old new request answers = codes "review DIFFERENT\n" ++ codes "old " ++ decision_name old ++ codes "\n"
    ++ codes "new " ++ decision_name new ++ codes "\n" ++ codes "request " ++ request_text request ++ codes "\n"
    ++ codes "answers " ++ answers_text answers ++ codes "\n"
