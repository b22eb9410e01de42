-- The text and the status that are due for a command on the bytes of its files (this project's own): the first text with a
-- fault is refused, then the first thing that can't be reviewed yet, and otherwise the command's work is done.
use Rattle.std.specs.Prelude.{ℕ, ◌≡◌, ◌⊎◌, List, [], ◌∷◌, Option, Some, None, Result, Ok, Err}
use Rattle.answer_book.specs.AnswersReading.{answers_reading}
use Rattle.answer_book.specs.Keys.{Ascend, group_keys, statement_keys, text_order, token_keys, token_order}
use Rattle.parting_build.specs.Plain.{plain_form_of}
use Rattle.waf_model.specs.Alike.{Alike, Parts, no_answers}
use Rattle.waf_model.specs.Cost.{cost_of}
use Rattle.waf_model.specs.Outcome.{IsOutcome}
use Rattle.waf_model.specs.Printed.{capacity_line, outcome_text, equal_text, different_text}
use Rattle.waf_model.specs.RequestText.{request_text}
use Rattle.waf_model.specs.declared.action.Decision.{Decision}
use Rattle.waf_model.specs.declared.answers.Answers.{Answers}
use Rattle.waf_model.specs.declared.answers.TokenKey.{TokenKey}
use Rattle.waf_model.specs.declared.bundle.Bundle.{Bundle}
use Rattle.waf_model.specs.declared.outcome.Outcome.{Outcome}
use Rattle.waf_model.specs.declared.read_fault.ReadFault.{ReadFault}
use Rattle.waf_model.specs.declared.read_fault.ReadFault.TheVariants.{NotBuilt}
use Rattle.waf_model.specs.declared.request.Request.{Request}
use Rattle.parting_build.specs.Reviewed.{HasLeastHeaderBytes}
use Rattle.impact_replay.specs.LogReading.{log_reading}
use Rattle.request_parts.specs.RequestReading.{request_reading}
use Rattle.set_json.specs.Bundles.{bundle_reading}
use Rattle.wafreview_run.specs.CommandLine.{Command, evaluate, capacity, keys, review, impact}
use Rattle.wafreview_run.specs.ImpactDue.{ImpactDue}
use Rattle.wafreview_run.specs.KeysText.{keys_text}
use Rattle.wafreview_run.specs.Refusal.{IsRefused}
use Rattle.wafreview_run.specs.declared.role.Role.TheVariants as roles

-- what the answers are read as; there are none where no file of answers is named
abbrev pub given_reading : Option (List ℕ) → Result Answers ReadFault
given_reading None = Ok no_answers
given_reading (Some bytes) = answers_reading bytes

-- the outcome and the capacity are printed
pub record IsEvaluated (bundle : Bundle) (request : Request) (answers : Answers) (code : ℕ) (text : List ℕ) : Type 0 where
  pub outcome : Outcome
  pub is_outcome : IsOutcome bundle request answers outcome
  pub status : code ≡ 0
  pub printed : text ≡ outcome_text outcome (cost_of bundle)

-- the keys of the bundle's questions are printed: those of statements, of managed rule groups and of tokens, each once and in
-- ascending order
pub record HasKeys (bundle : Bundle) (code : ℕ) (text : List ℕ) : Type 0 where
  pub statements : List (List ℕ)
  pub groups : List (List ℕ)
  pub tokens : List TokenKey
  pub of_statements : Ascend text_order (statement_keys bundle) statements
  pub of_groups : Ascend text_order (group_keys bundle) groups
  pub of_tokens : Ascend token_order (token_keys bundle) tokens
  pub status : code ≡ 0
  pub printed : text ≡ keys_text statements groups tokens

-- EQUAL is printed, and the two decide alike
pub record IsEqual (old new : Bundle) (code : ℕ) (text : List ℕ) : Type 0 where
  pub alike : Alike old new
  pub status : code ≡ 0
  pub printed : text ≡ equal_text

-- DIFFERENT is printed, with decisions, a request and answers that part the two, and no such request has fewer header
-- bytes; the printed request reads back as that request
pub record IsDifferent (old new : Bundle) (code : ℕ) (text : List ℕ) : Type 0 where
  pub before : Decision
  pub after : Decision
  pub request : Request
  pub answers : Answers
  pub parts : Parts old new request answers before after
  pub least : HasLeastHeaderBytes old new request
  pub reads_back : request_reading (request_text request) ≡ Ok request
  pub status : code ≡ 1
  pub printed : text ≡ different_text before after request answers

-- of `evaluate`, by what its texts are read as; the bundle comes first, and the request before the answers
abbrev pub EvaluateDue : Result Bundle ReadFault → Result Request ReadFault → Result Answers ReadFault → ℕ → List ℕ → Type 0
EvaluateDue (Err fault) request answers code text = IsRefused roles.Bundle fault code text
EvaluateDue (Ok bundle) (Err fault) answers code text = IsRefused roles.Request fault code text
EvaluateDue (Ok bundle) (Ok request) (Err fault) code text = IsRefused roles.Answers fault code text
EvaluateDue (Ok bundle) (Ok request) (Ok answers) code text = IsEvaluated bundle request answers code text

-- of `capacity`, by what its text is read as
abbrev pub CapacityDue : Result Bundle ReadFault → ℕ → List ℕ → Type 0
CapacityDue (Err fault) code text = IsRefused roles.Bundle fault code text
CapacityDue (Ok bundle) code text = (code ≡ 0) × (text ≡ capacity_line (cost_of bundle))

-- of `keys`, by what its text is read as
abbrev pub KeysDue : Result Bundle ReadFault → ℕ → List ℕ → Type 0
KeysDue (Err fault) code text = IsRefused roles.Bundle fault code text
KeysDue (Ok bundle) code text = HasKeys bundle code text

-- of `review` on two readable bundles: the first thing that can't be reviewed yet is refused, of the old one first
abbrev pub PlainDue : Option (List ℕ) → Option (List ℕ) → Bundle → Bundle → ℕ → List ℕ → Type 0
PlainDue (Some path) other old new code text = IsRefused roles.Old (NotBuilt path) code text
PlainDue None (Some path) old new code text = IsRefused roles.New (NotBuilt path) code text
PlainDue None None old new code text = IsEqual old new code text ⊎ IsDifferent old new code text

-- of `review`, by what its two texts are read as; the old one comes first
abbrev pub ReviewDue : Result Bundle ReadFault → Result Bundle ReadFault → ℕ → List ℕ → Type 0
ReviewDue (Err fault) new code text = IsRefused roles.Old fault code text
ReviewDue (Ok old) (Err fault) code text = IsRefused roles.New fault code text
ReviewDue (Ok old) (Ok new) code text = PlainDue (plain_form_of old) (plain_form_of new) old new code text

-- what is due for a command on the bytes of its files, in their order
abbrev pub Due : Command → List (List ℕ) → ℕ → List ℕ → Type 0
Due (evaluate bundle request answers) (b ∷ r ∷ []) code text = EvaluateDue (bundle_reading b) (request_reading r) (given_reading None) code text
Due (evaluate bundle request answers) (b ∷ r ∷ a ∷ []) code text = EvaluateDue (bundle_reading b) (request_reading r) (given_reading (Some a)) code text
Due (capacity bundle) (b ∷ []) code text = CapacityDue (bundle_reading b) code text
Due (keys bundle) (b ∷ []) code text = KeysDue (bundle_reading b) code text
Due (review old new) (o ∷ n ∷ []) code text = ReviewDue (bundle_reading o) (bundle_reading n) code text
Due (impact old new log answers) (o ∷ n ∷ l ∷ []) code text = ImpactDue (bundle_reading o) (bundle_reading n) (log_reading l) (given_reading None) code text
Due (impact old new log answers) (o ∷ n ∷ l ∷ a ∷ []) code text = ImpactDue (bundle_reading o) (bundle_reading n) (log_reading l) (given_reading (Some a)) code text
Due command contents code text = ⊥
