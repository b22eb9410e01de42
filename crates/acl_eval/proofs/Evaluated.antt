-- The walk over the rules of a web ACL comes to its outcome.
use Rattle.std.proofs.Common.{◌≡◌, ℕ, ◌+◌, ◌<◌, List, [], ◌∷◌, ◌++◌, length, get_or, take, drop, reverse, append_assoc, append-nil, AllPairs, IsTrue, Some, None, inl, inr, refl, sym, ap, subst, ◌∙◌}
use Rattle.std.proofs.lemmas.Grind.{flat_map-append}
use Rattle.std.specs.Cmp.Lexicographic.{slice_cmp}
use Rattle.std.specs.Ordering.{is_lt, nat_cmp}
use Rattle.acl_eval.specs.Walk.{IsWalked, IsWalk}
use Rattle.acl_eval.specs.declared.case.End.{End}
use Rattle.waf_laws.proofs.Among.{none_among}
use Rattle.acl_eval.proofs.Apart.{before_differ}
use Rattle.acl_eval.proofs.Firings.{none_at_all}
use Rattle.acl_eval.proofs.Lists.{parted, taken_more}
use Rattle.acl_eval.proofs.Places.{steps_in, all_away, away_reverse, unended_from}
use Rattle.waf_model.specs.Firing.{Ended}
use Rattle.waf_model.specs.Outcome.{IsOutcome}
use Rattle.waf_model.specs.Steps.{Step, steps_of}
use Rattle.waf_model.specs.WholeBundle.{IsWhole}
use Rattle.waf_model.specs.declared.answers.Answers.{Answers}
use Rattle.waf_model.specs.declared.bundle.Bundle.{Bundle}
use Rattle.waf_model.specs.declared.outcome.Ender.TheVariants as enders
use Rattle.waf_model.specs.declared.request.Request.{Request}
use Rattle.waf_model.specs.declared.rule.TopRule.{TopRule}
use mathlib.Core.List.{reverse-append, reverse-reverse}

-- the steps of the first so many rules, the latest first
abbrev pub steps_before : Bundle → ℕ → List Step
steps_before bundle i = reverse (steps_in bundle (take i bundle.acl.rules))

pub walked_first : (bundle : Bundle) (request : Request) (answers : Answers) → IsWalked bundle request answers [] []
walked_first bundle request answers = record {
  seen = λ label. (λ h. none_among label h, λ h. absurd h);
  none = none_at_all bundle request answers;
}

one_rule : (bundle : Bundle) (top : TopRule) → steps_in bundle (top ∷ []) ≡ steps_of bundle top top.body
one_rule bundle top = append-nil (steps_of bundle top top.body)

steps_more : (bundle : Bundle) (i : ℕ) (top : TopRule) → i < length bundle.acl.rules → top ≡ get_or bundle.acl.rules i top
    → steps_before bundle (i + 1) ≡ reverse (steps_of bundle top top.body) ++ steps_before bundle i
steps_more bundle i top below is =
    ap (λ l. reverse (steps_in bundle l)) (taken_more bundle.acl.rules i top below is)
    ∙ ap reverse (flat_map-append (λ (top : TopRule). steps_of bundle top top.body) (take i bundle.acl.rules) (top ∷ []) ∙ ap (λ (l : List Step). steps_in bundle (take i bundle.acl.rules) ++ l) (one_rule bundle top))
    ∙ reverse-append (steps_in bundle (take i bundle.acl.rules)) (steps_of bundle top top.body)

steps_parted : (bundle : Bundle) (i : ℕ) (top : TopRule) → i < length bundle.acl.rules → top ≡ get_or bundle.acl.rules i top
    → steps_in bundle bundle.acl.rules ≡ steps_in bundle (take i bundle.acl.rules) ++ (steps_of bundle top top.body ++ steps_in bundle (drop (i + 1) bundle.acl.rules))
steps_parted bundle i top below is =
    ap (steps_in bundle) (parted bundle.acl.rules i top below is)
    ∙ flat_map-append (λ (top : TopRule). steps_of bundle top top.body) (take i bundle.acl.rules) (top ∷ drop (i + 1) bundle.acl.rules)

-- the evaluation hasn't ended for the rule that is reached
unended_at : (bundle : Bundle) (request : Request) (answers : Answers) (i : ℕ) (top : TopRule) (labels : List (List ℕ)) → IsWhole bundle → i < length bundle.acl.rules → top ≡ get_or bundle.acl.rules i top
    → IsWalked bundle request answers (steps_before bundle i) labels → Ended bundle request answers (steps_before bundle i) top.place → ⊥
unended_at bundle request answers i top labels whole below is walked =
    unended_from bundle request answers top.place (steps_before bundle i) walked.none
    (away_reverse top.place (steps_in bundle (take i bundle.acl.rules)) (all_away bundle top.place (take i bundle.acl.rules) (before_differ bundle i top whole below is)))

-- a rule that didn't end the evaluation is passed
pub rule_goes_on : (bundle : Bundle) (request : Request) (answers : Answers) (i : ℕ) (top : TopRule) (labels after : List (List ℕ)) → IsWhole bundle
    → i < length bundle.acl.rules → top ≡ get_or bundle.acl.rules i top → IsWalked bundle request answers (steps_before bundle i) labels
    → IsWalk bundle request answers top.place (steps_of bundle top top.body) labels after None → IsWalked bundle request answers (steps_before bundle (i + 1)) after
rule_goes_on bundle request answers i top labels after whole below is walked walk =
    subst (λ (l : List Step). IsWalked bundle request answers l after) (sym (steps_more bundle i top below is))
    (walk (steps_before bundle i) walked (unended_at bundle request answers i top labels whole below is walked))

abbrev pub Ascending : List (List ℕ) → Type 0
Ascending labels = AllPairs (λ a b. IsTrue (is_lt (slice_cmp nat_cmp a b))) labels

-- where the deciding step stands among all
stands_among : (passed : List Step) (step : Step) (rest here before after all : List Step) → here ≡ reverse passed ++ step ∷ rest → all ≡ before ++ (here ++ after)
    → all ≡ reverse (passed ++ reverse before) ++ step ∷ (rest ++ after)
stands_among passed step rest here before after all is whole =
    whole ∙ ap (λ (l : List Step). before ++ (l ++ after)) is
    ∙ ap (λ (l : List Step). before ++ l) (append_assoc (reverse passed) (step ∷ rest) after)
    ∙ sym (append_assoc before (reverse passed) (step ∷ (rest ++ after)))
    ∙ ap (λ (l : List Step). l ++ step ∷ (rest ++ after)) (sym (reverse-append passed (reverse before) ∙ ap (λ (l : List Step). l ++ reverse passed) (reverse-reverse before)))

-- a rule that ended the evaluation decides
pub rule_decides : (bundle : Bundle) (request : Request) (answers : Answers) (i : ℕ) (top : TopRule) (labels after : List (List ℕ)) (end : End) → IsWhole bundle
    → i < length bundle.acl.rules → top ≡ get_or bundle.acl.rules i top → IsWalked bundle request answers (steps_before bundle i) labels
    → IsWalk bundle request answers top.place (steps_of bundle top top.body) labels after (Some end) → Ascending after
    → IsOutcome bundle request answers (record { decision = end.decision; ender = end.ender; labels = after })
rule_decides bundle request answers i top labels after end whole below is walked walk ascend =
    let decided = walk (steps_before bundle i) walked (unended_at bundle request answers i top labels whole below is walked) in
    inl (record {
      before = decided.passed ++ steps_before bundle i;
      step = decided.step;
      after = decided.rest ++ steps_in bundle (drop (i + 1) bundle.acl.rules);
      stands = stands_among decided.passed decided.step decided.rest (steps_of bundle top top.body) (steps_in bundle (take i bundle.acl.rules)) (steps_in bundle (drop (i + 1) bundle.acl.rules))
          (steps_in bundle bundle.acl.rules) decided.stands (steps_parted bundle i top below is);
      first = decided.none;
      decides = decided.decides;
      ender = decided.ender;
      labels = record { ascend = ascend; seen = decided.seen };
    })

-- no rule ended the evaluation, and the default action decides
pub default_decides : (bundle : Bundle) (request : Request) (answers : Answers) (labels : List (List ℕ))
    → IsWalked bundle request answers (reverse (steps_in bundle bundle.acl.rules)) labels → Ascending labels
    → IsOutcome bundle request answers (record { decision = bundle.acl.default; ender = enders.Default; labels = labels })
default_decides bundle request answers labels walked ascend = inr (record {
  none = walked.none;
  decision = refl;
  ender = refl;
  labels = record { ascend = ascend; seen = walked.seen };
})
