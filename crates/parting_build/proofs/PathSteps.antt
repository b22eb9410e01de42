-- Two requests whose paths are alike to each rule of a web ACL of path rules are decided alike.
use Rattle.std.proofs.Common.{◌≡◌, ℕ, suc, ◌↔◌, List, [], ◌∷◌, ◌++◌, reverse, Option, Some, slice_get, IsSome, Any, inl, inr, refl, sym, ap, ◌∙◌, subst, arith}
use Rattle.std.specs.List.{All, flat_map}
use Rattle.std.proofs.lemmas.Grind.{reverse_onto}
use Rattle.std.proofs.lemmas.List.{reverse-reverse}
use Rattle.std.proofs.lemmas.List.Elements.{All-head, All-tail}
use Rattle.waf_model.specs.Alike as alike
use Rattle.waf_model.specs.Firing.{Ended, Fires, Matches, Seen, end_of, end_of_tried, labels_of_tried}
use Rattle.waf_model.specs.Holds.{Holds}
use Rattle.waf_model.specs.Outcome.{AreLabels, Decides, DefaultDecides, NoneDecides, StepDecides}
use Rattle.waf_model.specs.Steps.{Step, Tried, rule, steps, steps_of}
use Rattle.waf_model.specs.declared.action.Action.{Action}
use Rattle.waf_model.specs.declared.action.Action.TheVariants as actions
use Rattle.waf_model.specs.declared.action.Decision.{Decision}
use Rattle.waf_model.specs.declared.answers.Answers.{Answers}
use Rattle.waf_model.specs.declared.bundle.Bundle.{Bundle}
use Rattle.waf_model.specs.declared.outcome.Outcome.{Outcome}
use Rattle.waf_model.specs.declared.request.Request.{Request}
use Rattle.waf_model.specs.declared.rule.Top.{Top}
use Rattle.waf_model.specs.declared.rule.Top.TheVariants.{Plain}
use Rattle.waf_model.specs.declared.rule.TopRule.{TopRule}
use Rattle.waf_model.specs.declared.statement.Statement.{Statement}
use Rattle.waf_model.specs.declared.statement.Statement.TheVariants.{ByteMatch}
use Rattle.parting_build.specs.Named.{search_of, search_of_rule}
use Rattle.parting_build.specs.Plain.{HasPathRules, IsAllowOrBlock, IsPathMatch, IsPathRule}
use Rattle.parting_build.proofs.PathMatch.{holds_is}
use Rattle.parting_build.proofs.PlainForm.{whole_path_from}

-- ---- one step

-- The step tries a match of the whole path that allows or blocks and has no labels, and the paths of both requests are
-- alike to it.
record IsPathStep (one other : Request) (step : Step) : Type 0 where
  statement : Statement
  action : Action
  captcha : Option ℕ
  challenge : Option ℕ
  tries : step.tried ≡ rule statement action [] captcha challenge
  path : IsPathMatch statement
  ends : IsAllowOrBlock action
  same : (one.path ≡ search_of statement) ↔ (other.path ≡ search_of statement)

turned_step : (one other : Request) (step : Step) → IsPathStep one other step → IsPathStep other one step
turned_step one other step is = record {
  statement = is.statement;
  action = is.action;
  captcha = is.captcha;
  challenge = is.challenge;
  tries = is.tries;
  path = is.path;
  ends = is.ends;
  same = (is.same.1, is.same.0);
}

-- the path decides whether a match of the whole path holds
statement_is : (bundle : Bundle) (statement : Statement) (request : Request) (answers : Answers) (seen : List ℕ → Type 0) (namespace : List ℕ) (limit : ℕ)
    → IsPathMatch statement → (request.path ≡ search_of statement) ↔ Holds bundle statement request answers seen namespace limit
statement_is bundle (ByteMatch wanted field ts position) request answers seen namespace limit is =
    holds_is bundle wanted field ts position request answers seen namespace limit (whole_path_from wanted field ts position is)
statement_is bundle statement request answers seen namespace limit is = absurd is

-- where the step matches in the one request, it does in the other
matches_moved : (bundle : Bundle) (one other : Request) (answers others : Answers) (seen those : List ℕ → Type 0) (namespace : List ℕ) (step : Step)
    → IsPathStep one other step → Matches bundle one answers seen namespace step.tried → Matches bundle other others those namespace step.tried
matches_moved bundle one other answers others seen those namespace step is matches =
    let holds : Holds bundle is.statement one answers seen namespace bundle.acl.body_limit = subst (λ (t : Tried). Matches bundle one answers seen namespace t) is.tries matches in
    let here = statement_is bundle is.statement one answers seen namespace bundle.acl.body_limit is.path in
    let there = statement_is bundle is.statement other others those namespace bundle.acl.body_limit is.path in
    subst (λ (t : Tried). Matches bundle other others those namespace t) (sym is.tries) (there.0 (is.same.0 (here.1 holds)))

-- it ends the evaluation alike, whatever is answered
same_end : (bundle : Bundle) (answers others : Answers) (captcha challenge : Option ℕ) (action : Action) → IsAllowOrBlock action → end_of bundle answers captcha challenge action ≡ end_of bundle others captcha challenge action
same_end bundle answers others captcha challenge actions.Allow is = refl
same_end bundle answers others captcha challenge (actions.Block code) is = refl
same_end bundle answers others captcha challenge action is = absurd is

end_moved : (bundle : Bundle) (one other : Request) (answers others : Answers) (step : Step) → IsPathStep one other step → end_of_tried bundle answers step.tried ≡ end_of_tried bundle others step.tried
end_moved bundle one other answers others step is =
    ap (end_of_tried bundle answers) is.tries ∙ same_end bundle answers others is.captcha is.challenge is.action is.ends ∙ sym (ap (end_of_tried bundle others) is.tries)

-- it adds no label
adds_none : (one other : Request) (answers : Answers) (step : Step) (label : List ℕ) → IsPathStep one other step → Any (λ added. label ≡ added) (labels_of_tried answers step.tried) → ⊥
adds_none one other answers step label is added =
    let among : Any (λ one. label ≡ one) [] = subst (λ (t : Tried). Any (λ one. label ≡ one) (labels_of_tried answers t)) is.tries added in
    let within = among.2 in
    omega arith

-- ---- lists of such steps

abbrev EachStep : Request → Request → List Step → Type 0
EachStep one other [] = Unit {0}
EachStep one other (step ∷ rest) = IsPathStep one other step × EachStep one other rest

each_joined : (one other : Request) (front back : List Step) → EachStep one other front → EachStep one other back → EachStep one other (front ++ back)
each_joined one other [] back first second = second
each_joined one other (step ∷ front) back first second = (first.0, each_joined one other front back first.1 second)

each_behind : (one other : Request) (front back : List Step) → EachStep one other (front ++ back) → EachStep one other back
each_behind one other [] back each = each
each_behind one other (step ∷ front) back each = each_behind one other front back each.1

each_front : (one other : Request) (front back : List Step) → EachStep one other (front ++ back) → EachStep one other front
each_front one other [] back each = tt
each_front one other (step ∷ front) back each = (each.0, each_front one other front back each.1)

each_reversed : (one other : Request) (all : List Step) → EachStep one other all → EachStep one other (reverse all)
each_reversed one other [] each = tt
each_reversed one other (step ∷ rest) each =
    subst (λ (l : List Step). EachStep one other l) (sym (reverse_onto rest step [])) (each_joined one other (reverse rest) (step ∷ []) (each_reversed one other rest each.1) (each.0, tt))

-- of a split list, those in front, the latest first, and the step
each_split : (one other : Request) (before : List Step) (step : Step) (after : List Step) → EachStep one other (reverse before ++ step ∷ after) → EachStep one other (step ∷ before)
each_split one other before step after each =
    let turned : EachStep one other (reverse (reverse before)) = each_reversed one other (reverse before) (each_front one other (reverse before) (step ∷ after) each) in
    ((each_behind one other (reverse before) (step ∷ after) each).0, subst (λ (l : List Step). EachStep one other l) (reverse-reverse before) turned)

-- ---- what is behind them

-- no label was seen
none_seen : (bundle : Bundle) (one other request : Request) (answers : Answers) (before : List Step) (label : List ℕ) → EachStep one other before → Seen bundle request answers before label → ⊥
none_seen bundle one other request answers [] label each seen = seen
none_seen bundle one other request answers (step ∷ before) label each seen =
    elim seen [
      | inl earlier ↦ none_seen bundle one other request answers before label each.1 earlier
      | inr here ↦ adds_none one other answers step label each.0 here.1
    ]

-- the step fires in the other request where it does in the one, if nothing else ended the evaluation for its rule
fires_moved : (bundle : Bundle) (one other : Request) (answers others : Answers) (before : List Step) (step : Step)
    → ((place : ℕ) → Ended bundle other others before place → Ended bundle one answers before place) → IsPathStep one other step → Fires bundle one answers before step → Fires bundle other others before step
fires_moved bundle one other answers others before step back is fires = (
  λ ended. fires.0 (back step.place ended),
  matches_moved bundle one other answers others (Seen bundle one answers before) (Seen bundle other others before) step.namespace step is fires.1,
)

ended_behind : (bundle : Bundle) (one other : Request) (answers others : Answers) (before : List Step) (step : Step) (place : ℕ)
    → ((p : ℕ) → Ended bundle one answers before p ↔ Ended bundle other others before p) → IsPathStep one other step
    → Ended bundle one answers (step ∷ before) place → Ended bundle other others (step ∷ before) place
ended_behind bundle one other answers others before step place same is ended =
    elim ended [
      | inl earlier ↦ inl ((same place).0 earlier)
      | inr here ↦ inr (
        fires_moved bundle one other answers others before step (λ p. (same p).1) is here.0,
        subst (λ (d : Option Decision). IsSome d) (end_moved bundle one other answers others step is) here.1,
        here.2,
      )
    ]

-- the evaluation has ended for the same rules
same_ended : (bundle : Bundle) (one other : Request) (answers others : Answers) (before : List Step) → EachStep one other before
    → (place : ℕ) → Ended bundle one answers before place ↔ Ended bundle other others before place
same_ended bundle one other answers others [] each place = (λ ended. ended, λ ended. ended)
same_ended bundle one other answers others (step ∷ before) each place =
    let same = same_ended bundle one other answers others before each.1 in (
      ended_behind bundle one other answers others before step place same each.0,
      ended_behind bundle other one others answers before step place (λ p. ((same p).1, (same p).0)) (turned_step one other step each.0),
    )

-- ---- what is decided

decides_moved : (bundle : Bundle) (one other : Request) (answers others : Answers) (before : List Step) (step : Step) (decision : Decision) → EachStep one other (step ∷ before)
    → Decides bundle one answers before step decision → Decides bundle other others before step decision
decides_moved bundle one other answers others before step decision each decides = record {
  fires = fires_moved bundle one other answers others before step (λ place. (same_ended bundle one other answers others before each.1 place).1) each.0 decides.fires;
  whole = decides.whole;
  ends = sym (end_moved bundle one other answers others step each.0) ∙ decides.ends;
}

each_turned : (one other : Request) (all : List Step) → EachStep one other all → EachStep other one all
each_turned one other [] each = tt
each_turned one other (step ∷ rest) each = (turned_step one other step each.0, each_turned one other rest each.1)

none_moved : (bundle : Bundle) (one other : Request) (answers others : Answers) (all : List Step) → EachStep one other all → NoneDecides bundle one answers all → NoneDecides bundle other others all
none_moved bundle one other answers others all each none before step after decision is decides =
    let here : EachStep one other (step ∷ before) = each_behind one other after (step ∷ before) (subst (λ (l : List Step). EachStep one other l) is each) in
    none before step after decision is (decides_moved bundle other one others answers before step decision (each_turned one other (step ∷ before) here) decides)

labels_moved : (bundle : Bundle) (one other : Request) (answers others : Answers) (fired : List Step) (labels : List (List ℕ)) → EachStep one other fired
    → AreLabels bundle one answers fired labels → AreLabels bundle other others fired labels
labels_moved bundle one other answers others fired labels each are = record {
  ascend = are.ascend;
  seen = λ label. (
    λ among. absurd (none_seen bundle one other one answers fired label each ((are.seen label).0 among)),
    λ seen. absurd (none_seen bundle one other other others fired label each seen),
  );
}

step_moved : (bundle : Bundle) (one other : Request) (answers others : Answers) (outcome : Outcome) → EachStep one other (steps bundle)
    → StepDecides bundle one answers outcome → StepDecides bundle other others outcome
step_moved bundle one other answers others outcome each h =
    let here : EachStep one other (h.step ∷ h.before) = each_split one other h.before h.step h.after (subst (λ (l : List Step). EachStep one other l) h.stands each) in
    record {
      before = h.before;
      step = h.step;
      after = h.after;
      stands = h.stands;
      first = none_moved bundle one other answers others h.before here.1 h.first;
      decides = decides_moved bundle one other answers others h.before h.step outcome.decision here h.decides;
      ender = h.ender;
      labels = labels_moved bundle one other answers others (h.step ∷ h.before) outcome.labels here h.labels;
    }

default_moved : (bundle : Bundle) (one other : Request) (answers others : Answers) (outcome : Outcome) → EachStep one other (steps bundle)
    → DefaultDecides bundle one answers outcome → DefaultDecides bundle other others outcome
default_moved bundle one other answers others outcome each h =
    let all : EachStep one other (reverse (steps bundle)) = each_reversed one other (steps bundle) each in
    record {
      none = none_moved bundle one other answers others (reverse (steps bundle)) all h.none;
      decision = h.decision;
      ender = h.ender;
      labels = labels_moved bundle one other answers others (reverse (steps bundle)) outcome.labels all h.labels;
    }

-- ---- the rules

-- the paths of both requests are alike to each rule
abbrev pub SamePaths : List TopRule → Request → Request → Type 0
SamePaths rules one other = (i : ℕ) (top : TopRule) → slice_get rules i ≡ Some top → (one.path ≡ search_of_rule top.body) ↔ (other.path ≡ search_of_rule top.body)

steps_of_rule : (bundle : Bundle) (one other : Request) (top : TopRule) (body : Top) → IsPathRule body → (one.path ≡ search_of_rule body) ↔ (other.path ≡ search_of_rule body)
    → EachStep one other (steps_of bundle top body)
steps_of_rule bundle one other top (Plain r) is same = (
  record {
    statement = r.statement;
    action = r.action;
    captcha = r.captcha;
    challenge = r.challenge;
    tries = rw is.2 refl;
    path = is.0;
    ends = is.1;
    same = same;
  },
  tt,
)
steps_of_rule bundle one other top body is same = absurd is

steps_of_rules : (bundle : Bundle) (one other : Request) (rules : List TopRule) → All (λ t. IsPathRule t.body) rules → SamePaths rules one other
    → EachStep one other (flat_map (λ top. steps_of bundle top top.body) rules)
steps_of_rules bundle one other [] all same = tt
steps_of_rules bundle one other (top ∷ rules) all same =
    each_joined one other (steps_of bundle top top.body) (flat_map (λ t. steps_of bundle t t.body) rules)
    (steps_of_rule bundle one other top top.body (All-head (λ t. IsPathRule t.body) top rules all) (same 0 top refl))
    (steps_of_rules bundle one other rules (All-tail (λ t. IsPathRule t.body) top rules all) (λ i t stands. same (suc i) t stands))

-- the same is decided of both requests, whatever is answered
pub moved : (bundle : Bundle) (one other : Request) (answers others : Answers) (d : Decision) → HasPathRules bundle → SamePaths bundle.acl.rules one other
    → alike.Decides bundle one answers d → alike.Decides bundle other others d
moved bundle one other answers others d rules same (outcome, decided, is) =
    let each : EachStep one other (steps bundle) = steps_of_rules bundle one other bundle.acl.rules rules same in (
      outcome,
      elim decided [
        | inl h ↦ inl (step_moved bundle one other answers others outcome each h)
        | inr h ↦ inr (default_moved bundle one other answers others outcome each h)
      ],
      is,
    )
