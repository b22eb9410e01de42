-- Lists of what is prepared of things, in the order of the things.
use Rattle.std.proofs.Common.{◌≡◌, ℕ, ◌+◌, ◌<◌, ◌≤◌, ◌↔◌, List, [], ◌∷◌, ◌++◌, length, get_or, take, take_all, Bool, IsTrue, Option, Some, Result, IfOk, sym, ap, subst, ◌∙◌, arith}
use Rattle.std.proofs.lemmas.List.{get_or-map, length-map, map_push}
use Rattle.std.proofs.lemmas.List.Elements.{All-push}
use Rattle.acl_eval.specs.Preparation.{AreReady, IsPreparedFor, IsReadyGroup, IsReadyRule, IsReadyScope, IsReadyTop}
use Rattle.acl_eval.specs.declared.prepared.Prepared.{Prepared}
use Rattle.acl_eval.specs.declared.ready_group.ReadyGroup.{ReadyGroup}
use Rattle.acl_eval.specs.declared.ready_rule.ReadyRule.{ReadyRule}
use Rattle.acl_eval.specs.declared.ready_top.ReadyTop.{ReadyTop}
use Rattle.acl_eval.proofs.Lists.{taken_more}
use Rattle.match_eval.specs.Sets.{IsReadyFor}
use Rattle.match_eval.specs.declared.ready.Ready.{Ready}
use Rattle.waf_model.specs.Firing.{HoldsIfThere}
use Rattle.waf_model.specs.Holds.{Holds}
use Rattle.waf_model.specs.WholeBundle.{IsWhole}
use Rattle.waf_model.specs.declared.answers.Answers.{Answers}
use Rattle.waf_model.specs.declared.bundle.Bundle.{Bundle}
use Rattle.waf_model.specs.declared.request.Request.{Request}
use Rattle.waf_model.specs.declared.statement.Statement.{Statement}

-- ---- a list that is made

pub one_more_ready : {A R : Type 0} (thing : R → A) (IsReady : R → Type 0) (things : List A) (i : ℕ) (x : A) (readies : List R) (ready : R)
    → i < length things → x ≡ get_or things i x → AreReady thing IsReady (take i things) readies → thing ready ≡ x → IsReady ready
    → AreReady thing IsReady (take (i + 1) things) (readies ++ ready ∷ [])
one_more_ready {A} thing IsReady things i x readies ready below is before same here = record {
  are = map_push thing readies ready ∙ ap (λ (l : List A). l ++ thing ready ∷ []) before.are ∙ ap (λ (y : A). take i things ++ y ∷ []) same ∙ sym (taken_more things i x below is);
  each = All-push IsReady readies ready before.each here;
}

pub all_ready : {A R : Type 0} (thing : R → A) (IsReady : R → Type 0) (things : List A) (i : ℕ) (readies : List R) → length things ≤ i
    → AreReady thing IsReady (take i things) readies → AreReady thing IsReady things readies
all_ready {A} thing IsReady things i readies past ready = subst (λ (l : List A). AreReady thing IsReady l readies) (take_all i things past) ready

-- ---- a list that is gone over

is_ready_at : {A R : Type 0} (thing : R → A) (IsReady : R → Type 0) (things : List A) (readies : List R) (i : ℕ) (ready : R)
    → AreReady thing IsReady things readies → i < length readies → ready ≡ get_or readies i ready → IsReady ready
is_ready_at thing IsReady things readies i ready all below is = subst IsReady (sym is) (all.each i ready below)

-- the thing stands at the same place
thing_at : {A R : Type 0} (thing : R → A) (IsReady : R → Type 0) (things : List A) (readies : List R) (i : ℕ) (ready : R)
    → AreReady thing IsReady things readies → i < length readies → ready ≡ get_or readies i ready → thing ready ≡ get_or things i (thing ready)
thing_at {A} thing IsReady things readies i ready all below is =
    ap thing is ∙ sym (get_or-map thing readies i ready (thing ready) below) ∙ ap (λ (l : List A). get_or l i (thing ready)) all.are

-- there are as many
as_many : {A R : Type 0} (thing : R → A) (IsReady : R → Type 0) (things : List A) (readies : List R) → AreReady thing IsReady things readies → length readies ≡ length things
as_many {A} thing IsReady things readies all = sym (length-map readies thing) ∙ ap (λ (l : List A). length l) all.are

-- ---- the rules of a group and of a web ACL

-- a rule of a group that is prepared
pub rule_at : (bundle : Bundle) (group : ReadyGroup) (i : ℕ) (ready : ReadyRule) → IsReadyGroup bundle group → i < length group.rules.items → ready ≡ get_or group.rules.items i ready
    → (i < length group.group.now.rules) × (ready.rule.now ≡ get_or group.group.now.rules i ready.rule.now) × IsReadyRule bundle ready
rule_at bundle group i ready all below is = (
  omega (arith, as_many (λ (r : ReadyRule). r.rule.now) (IsReadyRule bundle) group.group.now.rules group.rules.items all),
  thing_at (λ (r : ReadyRule). r.rule.now) (IsReadyRule bundle) group.group.now.rules group.rules.items i ready all below is,
  is_ready_at (λ (r : ReadyRule). r.rule.now) (IsReadyRule bundle) group.group.now.rules group.rules.items i ready all below is,
)

-- a rule of a web ACL that is prepared
pub top_at : (bundle : Bundle) (prepared : Prepared) (i : ℕ) (ready : ReadyTop) → IsPreparedFor bundle prepared → i < length prepared.rules.items → ready ≡ get_or prepared.rules.items i ready
    → (i < length bundle.acl.rules) × (ready.top.now ≡ get_or bundle.acl.rules i ready.top.now) × IsReadyTop bundle ready
top_at bundle prepared i ready is_prepared below is = (
  omega (arith, as_many (λ (r : ReadyTop). r.top.now) (IsReadyTop bundle) bundle.acl.rules prepared.rules.items is_prepared.rules),
  thing_at (λ (r : ReadyTop). r.top.now) (IsReadyTop bundle) bundle.acl.rules prepared.rules.items i ready is_prepared.rules below is,
  is_ready_at (λ (r : ReadyTop). r.top.now) (IsReadyTop bundle) bundle.acl.rules prepared.rules.items i ready is_prepared.rules below is,
)

-- behind the last of them
pub tops_past : (bundle : Bundle) (prepared : Prepared) (i : ℕ) → IsPreparedFor bundle prepared → length prepared.rules.items ≤ i → length bundle.acl.rules ≤ i
tops_past bundle prepared i is_prepared past = omega (arith, as_many (λ (r : ReadyTop). r.top.now) (IsReadyTop bundle) bundle.acl.rules prepared.rules.items is_prepared.rules)

-- what follows for the bundle that is held follows for the one that it is
pub of_own : (prepared : Prepared) (P : Bundle → Type 0) → (IsPreparedFor prepared.bundle.now prepared → IsWhole prepared.bundle.now → P prepared.bundle.now)
    → (bundle : Bundle) → IsPreparedFor bundle prepared → IsWhole bundle → P bundle
of_own prepared P own bundle is whole =
    subst P is.bundle_is (own (subst (λ (b : Bundle). IsPreparedFor b prepared) (sym is.bundle_is) is) (subst IsWhole (sym is.bundle_is) whole))

-- ---- a statement that a managed rule group is scoped down to

pub scope_holds : {E : Type 0} (bundle : Bundle) (request : Request) (answers : Answers) (seen : List ℕ → Type 0) (namespace : List ℕ) (scope : Option Statement) (scope_down : Option Ready) (ready : Ready)
    (result : Result Bool E) → scope_down ≡ Some ready → IsReadyScope bundle scope scope_down
    → ((statement : Statement) → IsReadyFor bundle statement ready → IfOk result (λ holds. IsTrue holds ↔ Holds bundle statement request answers seen namespace bundle.acl.body_limit))
    → IfOk result (λ inside. IsTrue inside ↔ HoldsIfThere bundle scope request answers seen namespace)
scope_holds bundle request answers seen namespace scope scope_down ready result there is holds =
    let is_ready = subst (λ (o : Option Ready). IsReadyScope bundle scope o) there is in
    subst (λ (o : Option Statement). IfOk result (λ inside. IsTrue inside ↔ HoldsIfThere bundle o request answers seen namespace)) (sym is_ready.1) (holds is_ready.0 is_ready.2)
