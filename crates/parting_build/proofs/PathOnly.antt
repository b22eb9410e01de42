-- A web ACL of whole-path matches decides by the path alone.
use Rattle.std.proofs.Common.{◌≡◌, ℕ, zero, suc, ◌+◌, ◌<◌, ◌++◌, ◌||◌, take, get_or, Bool, true, false, List, [], ◌∷◌, length, Some, refl, sym, ap, ◌∙◌, subst, IsTrue}
use Rattle.std.specs.List.{slice_get}
use Rattle.std.proofs.Math.Bool.{or-true}
use Rattle.std.proofs.lemmas.Bool.{false≢true}
use Rattle.std.proofs.lemmas.List.{take_more}
use Rattle.std.proofs.lemmas.List.Folds.{list_any-append}
use Rattle.std.proofs.lemmas.Slice.Eq.{bytes_eq-Decides}
use Rattle.std.specs.Str.{bytes_eq}
use Rattle.waf_model.specs.Alike.{Alike, no_answers}
use Rattle.waf_model.specs.Within.{is_path}
use Rattle.waf_model.specs.declared.bundle.Bundle.{Bundle}
use Rattle.waf_model.specs.declared.request.Request.{Request}
use Rattle.waf_model.specs.declared.rule.TopRule.{TopRule}
use Rattle.parting_build.specs.Candidate.{AlikeAt, plain_get}
use Rattle.parting_build.specs.Named.{names, search_of_rule}
use Rattle.parting_build.specs.Plain.{HasPathRules}
use Rattle.parting_build.proofs.PathSteps.{SamePaths, moved}

-- with one path, the paths are alike to each rule
same_path : (rules : List TopRule) (one other : Request) → one.path ≡ other.path → SamePaths rules one other
same_path rules one other path i top stands = (λ m. sym path ∙ m, λ m. path ∙ m)

-- a rule whose search string is the path names it
names_at : (rules : List TopRule) (i : ℕ) (top : TopRule) (path : List ℕ) → slice_get rules i ≡ Some top → path ≡ search_of_rule top.body → names rules path ≡ true
names_at [] i top path stands is = cc
names_at (r ∷ rs) zero top path stands is =
    let same : search_of_rule r.body ≡ path = cc in
    rw ((bytes_eq-Decides (search_of_rule r.body) path).1 same)
names_at (r ∷ rs) (suc i) top path stands is =
    let later : names rs path ≡ true = names_at rs i top path stands is in
    rw later (or-true (bytes_eq (search_of_rule r.body) path))

-- two paths that no rule names are alike to each rule
unnamed : (rules : List TopRule) (one other : Request) → names rules one.path ≡ false → names rules other.path ≡ false → SamePaths rules one other
unnamed rules one other no_one no_other i top stands = (
  λ m. absurd (false≢true (sym no_one ∙ names_at rules i top one.path stands m)),
  λ m. absurd (false≢true (sym no_other ∙ names_at rules i top other.path stands m)),
)

-- alike at every named path and at one that is not named, so alike on every request
pub alike_everywhere : (old new : Bundle) (path : List ℕ) → HasPathRules old → HasPathRules new
    → ((p : List ℕ) → IsTrue (names old.acl.rules p) → IsTrue (is_path p) → AlikeAt old new p)
    → ((p : List ℕ) → IsTrue (names new.acl.rules p) → IsTrue (is_path p) → AlikeAt old new p)
    → names old.acl.rules path ≡ false → names new.acl.rules path ≡ false → AlikeAt old new path → Alike old new
alike_everywhere old new path old_rules new_rules at_old at_new no_old no_new at_path request answers d e within lawful old_decides new_decides =
    by_names (names old.acl.rules request.path) (names new.acl.rules request.path) refl refl
  where
    -- both decide so on the request that is tried for the path of this one
    here : AlikeAt old new request.path → d ≡ e
    here alike = alike d e
        (moved old request (plain_get request.path) answers no_answers d old_rules (same_path old.acl.rules request (plain_get request.path) refl) old_decides)
        (moved new request (plain_get request.path) answers no_answers e new_rules (same_path new.acl.rules request (plain_get request.path) refl) new_decides)

    by_names : (a b : Bool) → names old.acl.rules request.path ≡ a → names new.acl.rules request.path ≡ b → d ≡ e
    by_names true b is_old is_new = here (at_old request.path is_old within.path)
    by_names false true is_old is_new = here (at_new request.path is_new within.path)
    by_names false false is_old is_new = at_path d e
        (moved old request (plain_get path) answers no_answers d old_rules (unnamed old.acl.rules request (plain_get path) is_old no_old) old_decides)
        (moved new request (plain_get path) answers no_answers e new_rules (unnamed new.acl.rules request (plain_get path) is_new no_new) new_decides)

-- the two decide alike at every path that the list names
abbrev pub AlikeAtNamed : Bundle → Bundle → List TopRule → Type 0
AlikeAtNamed old new rules = (path : List ℕ) → IsTrue (names rules path) → IsTrue (is_path path) → AlikeAt old new path

either_path : (old new : Bundle) (before : List TopRule) (rule : TopRule) (path : List ℕ) (a b : Bool) → names before path ≡ a → bytes_eq (search_of_rule rule.body) path ≡ b → (a || (b || false)) ≡ true
    → AlikeAtNamed old new before → (IsTrue (is_path (search_of_rule rule.body)) → AlikeAt old new (search_of_rule rule.body)) → IsTrue (is_path path) → AlikeAt old new path
either_path old new before rule path true b is_before is_rule named tried here within = tried path is_before within
either_path old new before rule path false true is_before is_rule named tried here within =
    let same : search_of_rule rule.body ≡ path = (bytes_eq-Decides (search_of_rule rule.body) path).0 is_rule in
    subst (λ (p : List ℕ). AlikeAt old new p) same (here (subst (λ (p : List ℕ). IsTrue (is_path p)) (sym same) within))
either_path old new before rule path false false is_before is_rule named tried here within = absurd (false≢true named)

-- one rule more was tried
pub alike_at_more : (old new : Bundle) (rules : List TopRule) (i : ℕ) (rule : TopRule) → i < length rules → rule ≡ get_or rules i rule
    → AlikeAtNamed old new (take i rules) → (IsTrue (is_path (search_of_rule rule.body)) → AlikeAt old new (search_of_rule rule.body)) → AlikeAtNamed old new (take (i + 1) rules)
alike_at_more old new rules i rule within stands tried here path named is =
    let longer : take (i + 1) rules ≡ take i rules ++ rule ∷ [] = take_more rules i rule within ∙ ap (λ (r : TopRule). take i rules ++ r ∷ []) (sym stands) in
    let parts : (names (take i rules) path || (bytes_eq (search_of_rule rule.body) path || false)) ≡ true = sym (list_any-append (λ (r : TopRule). bytes_eq (search_of_rule r.body) path) (take i rules) (rule ∷ [])) ∙ (rw longer at named) in
    either_path old new (take i rules) rule path (names (take i rules) path) (bytes_eq (search_of_rule rule.body) path) refl refl parts tried here is
