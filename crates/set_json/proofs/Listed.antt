-- A bundle that misses nothing has all that its rules refer to.
use Rattle.std.proofs.Common.{◌≡◌, ℕ, List, [], ◌∷◌, fold, find, not, Bool, true, false, ◌&&◌, nat_lt, if◌then◌else◌, Option, Some, None, option_map, All, IsTrue, refl, sym}
use Rattle.std.proofs.lemmas.List.Elements.{All-nil, All-cons}
use Rattle.std.specs.List.{list_all}
use Rattle.std.specs.Option.{option_or}
use Rattle.waf_model.specs.References.{Reference, arn_of, is_listed, references, references_of}
use Rattle.waf_model.specs.WholeBundle.{HasReferences}
use Rattle.waf_model.specs.declared.bundle.Bundle.{Bundle}
use Rattle.waf_model.specs.declared.group.Group.{Group}
use Rattle.set_json.specs.Missing.{first_missing, missing_of, missing_of_acl, missing_of_groups, missing_of_rules, placed, sooner, told}
use Rattle.set_json.specs.Whole.{HasAll}

none_missing : (bundle : Bundle) (all : List Reference) → None ≡ first_missing bundle all → list_all (is_listed bundle) all ≡ true
none_missing bundle [] is = refl
none_missing bundle (reference ∷ others) is = from (none_missing bundle others) (is_listed bundle reference) is where
  from : (None ≡ first_missing bundle others → list_all (is_listed bundle) others ≡ true) → (b : Bool)
      → None ≡ option_map arn_of (if not b then Some reference else find (λ other. not (is_listed bundle other)) others) → (b && list_all (is_listed bundle) others) ≡ true
  from rest true none = rest none
  from rest false none = cc

nothing_placed : (place : ℕ) (found : Option (List ℕ)) → placed place found ≡ None → None ≡ found
nothing_placed place None is = refl
nothing_placed place (Some arn) is = cc

nothing_sooner : (one other : Option (ℕ × List ℕ)) → sooner one other ≡ None → (one ≡ None) × (other ≡ None)
nothing_sooner None other is = (refl, is)
nothing_sooner (Some one) None is = absurd (cc)
nothing_sooner (Some one) (Some other) is = from (nat_lt other.0 one.0) is where
  from : (b : Bool) → (if b then Some other else Some one) ≡ None → (Some one ≡ None) × (Some other ≡ None)
  from true none = absurd (cc)
  from false none = absurd (cc)

nothing_told : (found : Option (ℕ × List ℕ)) → told found ≡ None → found ≡ None
nothing_told None is = refl
nothing_told (Some one) is = cc

nothing_either : (one other : Option (List ℕ)) → option_or one other ≡ None → (one ≡ None) × (other ≡ None)
nothing_either None other is = (refl, is)
nothing_either (Some arn) other is = absurd (cc)

-- where the soonest is none, each misses nothing
each_none : {X : Type 0} (place : X → ℕ) (misses : X → Option (List ℕ)) (xs : List X) (first : Option (ℕ × List ℕ))
    → fold (λ found x. sooner found (placed (place x) (misses x))) first xs ≡ None → (first ≡ None) × All (λ x. None ≡ misses x) xs
each_none place misses [] first is = (is, All-nil (λ x. None ≡ misses x))
each_none place misses (x ∷ xs) first is =
    let rest = each_none place misses xs (sooner first (placed (place x) (misses x))) is in
    let here = nothing_sooner first (placed (place x) (misses x)) rest.0 in
    (here.0, All-cons (λ y. None ≡ misses y) x xs (nothing_placed (place x) (misses x) here.1) rest.1)

rules_listed : {X : Type 0} (bundle : Bundle) (place : X → ℕ) (refers : X → List Reference) (xs : List X)
    → fold (λ found x. sooner found (placed (place x) (first_missing bundle (refers x)))) None xs ≡ None → All (λ x. IsTrue (list_all (is_listed bundle) (refers x))) xs
rules_listed bundle place refers xs is =
    let none = each_none place (λ x. first_missing bundle (refers x)) xs None is in
    λ k d within. none_missing bundle _ (none.1 k d within)

groups_listed : (bundle : Bundle) (groups : List Group) → missing_of_groups bundle groups ≡ None → All (HasReferences bundle) groups
groups_listed bundle [] is = All-nil (HasReferences bundle)
groups_listed bundle (group ∷ groups) is =
    let parts = nothing_either (told (missing_of_rules bundle group.rules)) (missing_of_groups bundle groups) is in
    All-cons (HasReferences bundle) group groups
    (rules_listed bundle (λ rule. rule.place) (λ rule. references rule.statement) group.rules (nothing_told (missing_of_rules bundle group.rules) parts.0))
    (groups_listed bundle groups parts.1)

pub has_all : (bundle : Bundle) → None ≡ missing_of bundle → HasAll bundle
has_all bundle is =
    let parts = nothing_either (told (missing_of_acl bundle bundle.acl.rules)) (missing_of_groups bundle bundle.groups) (sym is) in
    record {
      acl_references = rules_listed bundle (λ top. top.place) (λ top. references_of top.body) bundle.acl.rules (nothing_told (missing_of_acl bundle bundle.acl.rules) parts.0);
      group_references = groups_listed bundle bundle.groups parts.1;
    }
