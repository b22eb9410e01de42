-- What stands at the places of a bundle is what its steps ask for, in order.
use Rattle.std.proofs.Common.{◌≡◌, ℕ, ◌+◌, List, [], ◌∷◌, ◌++◌, length, map, Bool, true, false, nat_lt, Option, Some, None, flat_map, refl, sym, ap, ◌∙◌, arith, append_assoc, length-append}
use Rattle.std.proofs.lemmas.Bool.Decides.{nat_tests}
use Rattle.std.proofs.lemmas.List.{map-append}
use Rattle.std.proofs.lemmas.List.Folds.{find_at}
use Rattle.std.proofs.lemmas.Option.{slice_get_past}
use Rattle.std.specs.Prelude.{slice_get, option_and_then, option_map, if◌then◌else◌}
use Rattle.std.specs.List.{enumerate_from, position_or_len}
use Rattle.std.specs.Option.{option_map_or}
use Rattle.std.specs.Str.{bytes_eq}
use Rattle.waf_model.specs.Places.{top_place, inner_place, group_index, inner_places, places_of, places, statement_of_top, statement_at, namespace_at, statement_of_tried}
use Rattle.waf_model.specs.References.{group_of}
use Rattle.waf_model.specs.Steps.{Step, group_step, steps_of, steps}
use Rattle.waf_model.specs.declared.bundle.Bundle.{Bundle}
use Rattle.waf_model.specs.declared.group.Group.{Group}
use Rattle.waf_model.specs.declared.place.Place.{Place}
use Rattle.waf_model.specs.declared.rule.GroupUse.{GroupUse}
use Rattle.waf_model.specs.declared.rule.Rule.{Rule}
use Rattle.waf_model.specs.declared.rule.Top.{Top}
use Rattle.waf_model.specs.declared.rule.Top.TheVariants as tops
use Rattle.waf_model.specs.declared.rule.TopRule.{TopRule}
use Rattle.waf_model.specs.declared.statement.Statement.{Statement}

-- ---- numbered elements

-- the element behind a front
get_behind : {X : Type 0} (front : List X) (x : X) (rest : List X) → slice_get (front ++ x ∷ rest) (length front) ≡ Some x
get_behind [] x rest = refl
get_behind (y ∷ front) x rest = get_behind front x rest

one_on : {X : Type 0} (front : List X) (x : X) → length (front ++ x ∷ []) ≡ length front + 1
one_on front x = length-append front (x ∷ [])

-- what is made of each element with its index is what is made of it alone
numbered_same : {X Y : Type 0} (h : ℕ × X → Y) (g : X → Y) (all : List X) → ((i : ℕ) (x : X) → slice_get all i ≡ Some x → h (i, x) ≡ g x)
    → (front rest : List X) → all ≡ front ++ rest → map h (enumerate_from (length front) rest) ≡ map g rest
numbered_same h g all same front [] is = refl
numbered_same {X} {Y} h g all same front (x ∷ rest) is =
    let here : h (length front, x) ≡ g x = same (length front) x (ap (λ (l : List X). slice_get l (length front)) is ∙ get_behind front x rest) in
    let later : map h (enumerate_from (length (front ++ x ∷ [])) rest) ≡ map g rest =
    numbered_same h g all same (front ++ x ∷ []) rest (is ∙ sym (append_assoc front (x ∷ []) rest)) in
    ap (λ (y : Y). y ∷ map h (enumerate_from (length front + 1) rest)) here
    ∙ ap (λ (l : List Y). g x ∷ l) (ap (λ (n : ℕ). map h (enumerate_from n rest)) (sym (one_on front x)) ∙ later)

-- the same of lists that are joined
joined_same : {X Y : Type 0} (h : ℕ × X → List Y) (g : X → List Y) (all : List X) → ((i : ℕ) (x : X) → slice_get all i ≡ Some x → h (i, x) ≡ g x)
    → (front rest : List X) → all ≡ front ++ rest → flat_map h (enumerate_from (length front) rest) ≡ flat_map g rest
joined_same h g all same front [] is = refl
joined_same {X} {Y} h g all same front (x ∷ rest) is =
    let here : h (length front, x) ≡ g x = same (length front) x (ap (λ (l : List X). slice_get l (length front)) is ∙ get_behind front x rest) in
    let later : flat_map h (enumerate_from (length (front ++ x ∷ [])) rest) ≡ flat_map g rest =
    joined_same h g all same (front ++ x ∷ []) rest (is ∙ sym (append_assoc front (x ∷ []) rest)) in
    ap (λ (l : List Y). l ++ flat_map h (enumerate_from (length front + 1) rest)) here
    ∙ ap (λ (l : List Y). g x ++ l) (ap (λ (n : ℕ). flat_map h (enumerate_from n rest)) (sym (one_on front x)) ∙ later)

map_joined : {X Y Z : Type 0} (f : Y → Z) (g : X → List Y) (xs : List X) → map f (flat_map g xs) ≡ flat_map (λ x. map f (g x)) xs
map_joined f g [] = refl
map_joined {X} {Y} {Z} f g (x ∷ xs) = map-append f (g x) (flat_map g xs) ∙ ap (λ (l : List Z). map f (g x) ++ l) (map_joined f g xs)

map_map : {X Y Z : Type 0} (f : Y → Z) (g : X → Y) (xs : List X) → map f (map g xs) ≡ map (λ x. f (g x)) xs
map_map f g [] = refl
map_map {X} {Y} {Z} f g (x ∷ xs) = ap (λ (l : List Z). f (g x) ∷ l) (map_map f g xs)

-- ---- the group of an ARN and its index

-- at its index stands the first group of the ARN
module _ (groups : List Group) (arn : List ℕ) where
  group_there : (index : ℕ) → group_index groups arn ≡ Some index → slice_get groups index ≡ group_of groups arn
  group_there index = by (nat_lt (position_or_len (λ one. bytes_eq one.arn arn) groups) (length groups))
    where
      by : (found : Bool) → (if found then Some (position_or_len (λ one. bytes_eq one.arn arn) groups) else None) ≡ Some index → slice_get groups index ≡ group_of groups arn
      by true is =
          let at : position_or_len (λ (one : Group). bytes_eq one.arn arn) groups ≡ index = cc in
          ap (slice_get groups) (sym at) ∙ sym (find_at (λ (one : Group). bytes_eq one.arn arn) groups)
      by false is = absurd (cc)

  group_nowhere : group_index groups arn ≡ None → group_of groups arn ≡ None
  group_nowhere = by (nat_lt (position_or_len (λ one. bytes_eq one.arn arn) groups) (length groups)) refl
    where
      by : (found : Bool) → nat_lt (position_or_len (λ one. bytes_eq one.arn arn) groups) (length groups) ≡ found
          → (if found then Some (position_or_len (λ one. bytes_eq one.arn arn) groups) else None) ≡ None → group_of groups arn ≡ None
      by true past is = absurd (cc)
      by false past is =
          find_at (λ (one : Group). bytes_eq one.arn arn) groups
          ∙ slice_get_past groups (position_or_len (λ (one : Group). bytes_eq one.arn arn) groups) (grind (arith, nat_tests, past))

-- ---- one answer for each place and for each step

module _ {A : Type 0} (bundle : Bundle) (f : Place → A) (g : Step → A) (at_top : (index : ℕ) (top : TopRule) → slice_get bundle.acl.rules index ≡ Some top
    → map f (places_of bundle index top.body) ≡ map g (steps_of bundle top top.body)) where
  pub in_order : map f (places bundle) ≡ map g (steps bundle)
  in_order =
      map_joined f (λ (numbered : ℕ × TopRule). places_of bundle numbered.0 numbered.1.body) (enumerate_from 0 bundle.acl.rules)
      ∙ joined_same (λ (numbered : ℕ × TopRule). map f (places_of bundle numbered.0 numbered.1.body)) (λ top. map g (steps_of bundle top top.body)) bundle.acl.rules at_top [] bundle.acl.rules refl
      ∙ sym (map_joined g (λ (top : TopRule). steps_of bundle top top.body) bundle.acl.rules)

-- the places and steps of the rules of a group that the web ACL refers to
module _ {A : Type 0} (bundle : Bundle) (f : Place → A) (g : Step → A) (top : TopRule) (use_of : GroupUse)
    (at_rule : (group : ℕ) (found : Group) (index : ℕ) (rule : Rule) → slice_get bundle.groups group ≡ Some found → slice_get found.rules index ≡ Some rule
    → f (inner_place group index) ≡ g (group_step top use_of found rule)) where
  in_group : (index : ℕ) (found : Group) → slice_get bundle.groups index ≡ Some found
      → map f (map (λ numbered. inner_place index numbered.0) (enumerate_from 0 found.rules)) ≡ map g (map (group_step top use_of found) found.rules)
  in_group index found there =
      map_map f (λ (numbered : ℕ × Rule). inner_place index numbered.0) (enumerate_from 0 found.rules)
      ∙ numbered_same (λ (numbered : ℕ × Rule). f (inner_place index numbered.0)) (λ rule. g (group_step top use_of found rule)) found.rules
      (λ i rule is. at_rule index found i rule there is) [] found.rules refl
      ∙ sym (map_map g (group_step top use_of found) found.rules)

  pub group_in_order : map f (option_map_or (inner_places bundle.groups) (group_index bundle.groups use_of.arn) [])
      ≡ map g (option_map_or (λ group. map (group_step top use_of group) group.rules) (group_of bundle.groups use_of.arn) [])
  group_in_order = by (group_index bundle.groups use_of.arn) refl
    where
      inside : (index : ℕ) (there : Option Group) → slice_get bundle.groups index ≡ there
          → map f (option_map_or (λ group. map (λ numbered. inner_place index numbered.0) (enumerate_from 0 group.rules)) there [])
          ≡ map g (option_map_or (λ group. map (group_step top use_of group) group.rules) there [])
      inside index None is = refl
      inside index (Some found) is = in_group index found is

      by : (index : Option ℕ) → group_index bundle.groups use_of.arn ≡ index
          → map f (option_map_or (inner_places bundle.groups) index [])
          ≡ map g (option_map_or (λ group. map (group_step top use_of group) group.rules) (group_of bundle.groups use_of.arn) [])
      by None is = rw (group_nowhere bundle.groups use_of.arn is) refl
      by (Some index) is = rw (sym (group_there bundle.groups use_of.arn index is)) (inside index (slice_get bundle.groups index) refl)

-- ---- statements and namespaces

module _ (bundle : Bundle) where
  top_statement : (index : ℕ) (top : TopRule) → slice_get bundle.acl.rules index ≡ Some top → statement_at bundle (top_place index) ≡ statement_of_top top.body
  top_statement index top is = ap (option_and_then (λ (one : TopRule). statement_of_top one.body)) is

  statements_at_top : (index : ℕ) (top : TopRule) → statement_at bundle (top_place index) ≡ statement_of_top top.body → (body : Top) → top.body ≡ body
      → map (statement_at bundle) (places_of bundle index body) ≡ map (λ step. statement_of_tried step.tried) (steps_of bundle top body)
  statements_at_top index top is (tops.Plain r) same = ap (λ (s : Option Statement). s ∷ []) (is ∙ ap statement_of_top same)
  statements_at_top index top is (tops.Managed use_of) same = ap (λ (s : Option Statement). s ∷ []) (is ∙ ap statement_of_top same)
  statements_at_top index top is (tops.Group use_of) same =
      group_in_order bundle (statement_at bundle) (λ step. statement_of_tried step.tried) top use_of (λ group found i rule there at.
      ap (λ (o : Option Group). option_map (λ (one : Rule). one.statement) (option_and_then (λ (one : Group). slice_get one.rules i) o)) there
      ∙ ap (option_map (λ (one : Rule). one.statement)) at)

  pub same_statements : map (statement_at bundle) (places bundle) ≡ map (λ step. statement_of_tried step.tried) (steps bundle)
  same_statements =
      in_order bundle (statement_at bundle) (λ step. statement_of_tried step.tried)
      (λ index top is. statements_at_top index top (top_statement index top is) top.body refl)

  namespaces_at_top : (index : ℕ) (top : TopRule) (body : Top) → map (namespace_at bundle) (places_of bundle index body) ≡ map (λ step. step.namespace) (steps_of bundle top body)
  namespaces_at_top index top (tops.Plain r) = refl
  namespaces_at_top index top (tops.Managed use_of) = refl
  namespaces_at_top index top (tops.Group use_of) =
      group_in_order bundle (namespace_at bundle) (λ step. step.namespace) top use_of (λ group found i rule there at.
      ap (λ (o : Option Group). option_map_or (λ (one : Group). one.namespace) o []) there)

  pub same_namespaces : map (namespace_at bundle) (places bundle) ≡ map (λ step. step.namespace) (steps bundle)
  same_namespaces = in_order bundle (namespace_at bundle) (λ step. step.namespace) (λ index top is. namespaces_at_top index top top.body)
