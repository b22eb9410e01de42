-- One step of an evaluation is tried, where these labels were added before (this project's own): the list of labels
-- before and behind it, and what it ended the evaluation with.
use Rattle.std.specs.Prelude.{◌≡◌, ◌⊎◌, ℕ, List, Option, None, fold}
use Rattle.std.specs.BTreeSet.{insert_key}
use Rattle.std.specs.Cmp.Lexicographic.{slice_cmp}
use Rattle.std.specs.Ordering.{nat_cmp}
use Rattle.waf_model.specs.Firing.{Matches, end_of_tried, labels_of_tried}
use Rattle.waf_model.specs.LabelMatch.{IsAmong}
use Rattle.waf_model.specs.Steps.{Tried}
use Rattle.waf_model.specs.declared.action.Decision.{Decision}
use Rattle.waf_model.specs.declared.answers.Answers.{Answers}
use Rattle.waf_model.specs.declared.bundle.Bundle.{Bundle}
use Rattle.waf_model.specs.declared.request.Request.{Request}

-- the set of labels, ascending by bytes, with these added one after another
abbrev pub with_labels : List (List ℕ) → List (List ℕ) → List (List ℕ)
with_labels labels added = fold (λ all label. insert_key (slice_cmp nat_cmp) all label) labels added

-- it matches: its labels are added, and it may end the evaluation
pub record HasMatched (bundle : Bundle) (request : Request) (answers : Answers) (namespace : List ℕ) (tried : Tried) (before after : List (List ℕ)) (decided : Option Decision) : Type 0 where
  pub matches : Matches bundle request answers (IsAmong before) namespace tried
  pub added : after ≡ with_labels before (labels_of_tried answers tried)
  pub decided_so : decided ≡ end_of_tried bundle answers tried

-- it doesn't match: nothing is added or ended
pub record HasNotMatched (bundle : Bundle) (request : Request) (answers : Answers) (namespace : List ℕ) (tried : Tried) (before after : List (List ℕ)) (decided : Option Decision) : Type 0 where
  pub fails : Matches bundle request answers (IsAmong before) namespace tried → ⊥
  pub stays : after ≡ before
  pub undecided : decided ≡ None

abbrev pub IsTried : Bundle → Request → Answers → List ℕ → Tried → List (List ℕ) → List (List ℕ) → Option Decision → Type 0
IsTried bundle request answers namespace tried before after decided =
    HasMatched bundle request answers namespace tried before after decided ⊎ HasNotMatched bundle request answers namespace tried before after decided
