-- Whether a statement holds of a request, as a truth value over the list of labels that were added before: `Holds` (this
-- project's own).
use Rattle.std.specs.Prelude.{ℕ, List, Bool, true, false, not, ◌&&◌, ◌||◌, Option}
use Rattle.std.specs.List.{list_any}
use Rattle.std.specs.Option.{option_map_or}
use Rattle.waf_model.specs.AddressTruth.{address_holds}
use Rattle.waf_model.specs.Answered.{statement_answer}
use Rattle.waf_model.specs.Holds.{Condition, never, always, tested, addressed, labelled, answered, both, either, opposite, condition, oversize_of}
use Rattle.waf_model.specs.LabelMatch.{label_holds}
use Rattle.waf_model.specs.Passes.{Test}
use Rattle.waf_model.specs.Shown.{is_oversized, shown}
use Rattle.waf_model.specs.TestTruth.{passes}
use Rattle.waf_model.specs.Transformed.{transform_all}
use Rattle.waf_model.specs.declared.answers.Answers.{Answers}
use Rattle.waf_model.specs.declared.bundle.Bundle.{Bundle}
use Rattle.waf_model.specs.declared.field.Field.{Field}
use Rattle.waf_model.specs.declared.field.Oversize.{Oversize}
use Rattle.waf_model.specs.declared.field.Oversize.TheVariants as oversizes
use Rattle.waf_model.specs.declared.request.Request.{Request}
use Rattle.waf_model.specs.declared.statement.Statement.{Statement}
use Rattle.waf_model.specs.declared.transform.Transform.{Transform}

-- some text that the field shows passes the test after the transformations
abbrev pub some_passes : Test → Field → List Transform → Request → ℕ → Bool
some_passes test field transforms request body_limit = list_any (λ text. passes test (transform_all transforms text)) (shown field request body_limit)

-- where the field is oversized, MATCH makes the statement hold and NO_MATCH makes it not hold
abbrev pub oversized_holds : Oversize → Bool → Bool
oversized_holds oversizes.Continue inspected = inspected
oversized_holds oversizes.Match inspected = true
oversized_holds oversizes.NoMatch inspected = false

abbrev pub field_holds : Bool → Oversize → Bool → Bool
field_holds true oversize inspected = oversized_holds oversize inspected
field_holds false oversize inspected = inspected

-- the condition is met by the request, under the answers, where these labels were added before
abbrev pub is_met : Request → Answers → List (List ℕ) → List ℕ → ℕ → Condition → Bool
is_met request answers labels namespace body_limit never = false
is_met request answers labels namespace body_limit always = true
is_met request answers labels namespace body_limit (tested test field transforms) =
    field_holds (is_oversized field request body_limit) (oversize_of field) (some_passes test field transforms request body_limit)
is_met request answers labels namespace body_limit (addressed ranges forwarded) = address_holds ranges forwarded request
is_met request answers labels namespace body_limit (labelled scope key) = list_any (label_holds scope key namespace) labels
is_met request answers labels namespace body_limit (answered key) = statement_answer answers key
is_met request answers labels namespace body_limit (both first second) =
    is_met request answers labels namespace body_limit first && is_met request answers labels namespace body_limit second
is_met request answers labels namespace body_limit (either first second) =
    is_met request answers labels namespace body_limit first || is_met request answers labels namespace body_limit second
is_met request answers labels namespace body_limit (opposite inner) = not (is_met request answers labels namespace body_limit inner)

-- the statement of the bundle holds
abbrev pub statement_holds : Bundle → Statement → Request → Answers → List (List ℕ) → List ℕ → ℕ → Bool
statement_holds bundle statement request answers labels namespace body_limit = is_met request answers labels namespace body_limit (condition bundle statement)
