-- The statements of a whole bundle that are written, with their paths, are those at its places and what stands in them.
use Rattle.std.proofs.Common.{◌≡◌, ℕ, ◌⊎◌, ◌↔◌, List, [], ◌∷◌, map, flat_map, Bool, true, false, ◌==◌, Option, Some, None, IsTrue, inl, inr, refl, sym, ap, ◌∙◌, subst, arith}
use Rattle.std.proofs.lemmas.Bool.{false≢true}
use Rattle.std.proofs.lemmas.List.Concat.{flat_map_single}
use Rattle.std.specs.List.{enumerate_from, list_any}
use Rattle.std.specs.Option.{option_map_or}
use Rattle.std.specs.Prelude.{Contains, codes, slice_get, option_and_then, option_map, ◌||◌, if◌then◌else◌}
use Rattle.waf_laws.proofs.Elements.{In, contains_in, in_contains, in_append, in_joined, in_at, in_numbered, in_file, each_in}
use Rattle.waf_laws.proofs.Pairs.{each_from_all}
use Rattle.waf_laws.proofs.Truths.{same_decided}
use Rattle.waf_model.specs.Places.{top_place, inner_place, group_index, inner_places, places_of, places, statement_of_top, statement_at}
use Rattle.waf_model.specs.WebAcl.{IsSoundGroup}
use Rattle.waf_model.specs.WholeBundle.{IsWhole}
use Rattle.waf_model.specs.Written.{Written, written_at, in_file_order, rule_path, written_in_top, written_in_acl, group_rules_path, written_in_group, refers_to, is_referred, written_in_groups, written_statements, path_of_top, path_at}
use Rattle.waf_model.specs.declared.bundle.Bundle.{Bundle}
use Rattle.waf_model.specs.declared.group.Group.{Group}
use Rattle.waf_model.specs.declared.place.Place.{Place}
use Rattle.waf_model.specs.declared.rule.GroupUse.{GroupUse}
use Rattle.waf_model.specs.declared.rule.Rule.{Rule}
use Rattle.waf_model.specs.declared.rule.Top.{Top}
use Rattle.waf_model.specs.declared.rule.Top.TheVariants as tops
use Rattle.waf_model.specs.declared.rule.TopRule.{TopRule}
use Rattle.waf_model.specs.declared.statement.Statement.{Statement}

-- ---- elements of what may be absent

in_option : {X Y : Type 0} (f : X → List Y) (there : Option X) (y : Y) → In (option_map_or f there []) y ↔ ((x : X) × (there ≡ Some x) × In (f x) y)
in_option f None y = (λ h. absurd h, λ (x, is, h). cc)
in_option {X} {Y} f (Some z) y = (λ h. (z, refl, h), λ (x, is, h). let same : z ≡ x = cc in subst (λ (u : X). In (f u) y) (sym same) h)

in_chosen : {X : Type 0} (test : Bool) (xs : List X) (x : X) → In (if test then xs else []) x ↔ (IsTrue test × In xs x)
in_chosen true xs x = (λ h. (refl, h), λ (chosen, h). h)
in_chosen false xs x = (λ h. absurd h, λ (chosen, h). absurd (false≢true chosen))

any_in : {X : Type 0} (p : X → Bool) (xs : List X) → IsTrue (list_any p xs) ↔ ((x : X) × In xs x × IsTrue (p x))
any_in p [] = (λ h. absurd (false≢true h), λ (x, none, h). absurd none)
any_in {X} p (z ∷ xs) = by (any_in p xs) (p z) refl
  where
    by : IsTrue (list_any p xs) ↔ ((x : X) × In xs x × IsTrue (p x)) → (here : Bool) → p z ≡ here
        → IsTrue (here || list_any p xs) ↔ ((x : X) × In (z ∷ xs) x × IsTrue (p x))
    by rest true is = (λ h. (z, inl refl, is), λ some. refl)
    by rest false is = (
      λ h. let (x, among, passes) = rest.0 h in (x, inr among, passes),
      λ (x, among, passes). elim among [
        | inl same ↦ absurd (false≢true (sym is ∙ ap p same ∙ passes))
        | inr later ↦ rest.1 (x, later, passes)
      ],
    )

in_map_numbered : {X Y : Type 0} (f : ℕ → Y) (xs : List X) (y : Y) → In (map (λ numbered. f numbered.0) (enumerate_from 0 xs)) y ↔ ((i : ℕ) × (x : X) × (slice_get xs i ≡ Some x) × (f i ≡ y))
in_map_numbered {X} {Y} f xs y =
    let single = flat_map_single (λ (numbered : ℕ × X). f numbered.0) (enumerate_from 0 xs) in
    let each = in_numbered (λ (numbered : ℕ × X). f numbered.0 ∷ []) 0 xs y in (
      λ h.
          let (i, x, at, there) = each.0 (subst (λ (l : List Y). In l y) (sym single) h) in (
            i,
            x,
            at,
            elim there [
              | inl same ↦ ap f (omega arith) ∙ same
              | inr none ↦ absurd none
            ],
          ),
      λ (i, x, at, same). subst (λ (l : List Y). In l y) single (each.1 (i, x, at, inl (ap f (omega arith) ∙ same))),
    )

-- what is made of the elements with their indices, which begin at 0
in_each : {X Y : Type 0} (h : ℕ × X → List Y) (xs : List X) (y : Y) → In (flat_map h (enumerate_from 0 xs)) y ↔ ((i : ℕ) × (x : X) × (slice_get xs i ≡ Some x) × In (h (i, x)) y)
in_each {X} {Y} h xs y =
    let each = in_numbered h 0 xs y in (
      λ h'. let (i, x, at, there) = each.0 h' in (i, x, at, subst (λ (k : ℕ). In (h (k, x)) y) (omega arith) there),
      λ (i, x, at, there). each.1 (i, x, at, subst (λ (k : ℕ). In (h (k, x)) y) (omega arith) there),
    )

module _ (bundle : Bundle) (whole : IsWhole bundle) where
  -- a statement that stands at the place has it, or is it
  abbrev pub IsAt : Written → Place → Type 0
  IsAt written place = (statement : Statement) × (statement_at bundle place ≡ Some statement) × In (written_at (path_at bundle place) statement) written

  -- ---- the web ACL

  top_written : (place : ℕ) (body : Top) → written_in_top (rule_path (codes "$.WebACL.Rules") place) body ≡ option_map_or (written_at (path_of_top place body)) (statement_of_top body) []
  top_written place (tops.Plain r) = refl
  top_written place (tops.Group use_of) = refl
  top_written place (tops.Managed use_of) = refl

  top_statement : (index : ℕ) (top : TopRule) → slice_get bundle.acl.rules index ≡ Some top → statement_at bundle (top_place index) ≡ statement_of_top top.body
  top_statement index top is = ap (option_and_then (λ (one : TopRule). statement_of_top one.body)) is

  top_path : (index : ℕ) (top : TopRule) → slice_get bundle.acl.rules index ≡ Some top → path_at bundle (top_place index) ≡ path_of_top top.place top.body
  top_path index top is = ap (λ (o : Option TopRule). option_map_or (λ (one : TopRule). path_of_top one.place one.body) o []) is

  -- what is written of a rule of the web ACL is at its place
  in_top : (index : ℕ) (top : TopRule) (w : Written) → slice_get bundle.acl.rules index ≡ Some top
      → In (written_in_top (rule_path (codes "$.WebACL.Rules") top.place) top.body) w ↔ IsAt w (top_place index)
  in_top index top w is =
      let some = in_option (written_at (path_of_top top.place top.body)) (statement_of_top top.body) w in
      let same = top_written top.place top.body in (
        λ h.
            let (statement, there, among) = some.0 (subst (λ (l : List Written). In l w) same h) in
            (statement, top_statement index top is ∙ there, subst (λ (path : List ℕ). In (written_at path statement) w) (sym (top_path index top is)) among),
        λ (statement, there, among).
            subst (λ (l : List Written). In l w) (sym same)
            (some.1 (statement, sym (top_statement index top is) ∙ there, subst (λ (path : List ℕ). In (written_at path statement) w) (top_path index top is) among)),
      )

  in_acl : (w : Written) → In (written_in_acl bundle.acl.rules) w ↔ ((index : ℕ) × (top : TopRule) × (slice_get bundle.acl.rules index ≡ Some top) × IsAt w (top_place index))
  in_acl w =
      let joined = in_joined (λ (top : TopRule). written_in_top (rule_path (codes "$.WebACL.Rules") top.place) top.body) (in_file_order (λ top. top.place) bundle.acl.rules) w in (
        λ h.
            let (top, among, there) = joined.0 h in
            let (index, at) = (in_at bundle.acl.rules top).0 ((in_file (λ (one : TopRule). one.place) bundle.acl.rules whole.acl.order.each_place top).0 among) in
            (index, top, at, (in_top index top w at).0 there),
        λ (index, top, at, there).
            joined.1 (top, (in_file (λ (one : TopRule). one.place) bundle.acl.rules whole.acl.order.each_place top).1 ((in_at bundle.acl.rules top).1 (index, at)), (in_top index top w at).1 there),
      )

  -- ---- rule groups

  inner_statement : (index : ℕ) (group : Group) (k : ℕ) (rule : Rule) → slice_get bundle.groups index ≡ Some group → slice_get group.rules k ≡ Some rule
      → statement_at bundle (inner_place index k) ≡ Some rule.statement
  inner_statement index group k rule there at =
      ap (λ (o : Option Group). option_map (λ (one : Rule). one.statement) (option_and_then (λ (one : Group). slice_get one.rules k) o)) there
      ∙ ap (option_map (λ (one : Rule). one.statement)) at

  inner_path : (index : ℕ) (group : Group) (k : ℕ) (rule : Rule) → slice_get bundle.groups index ≡ Some group → slice_get group.rules k ≡ Some rule
      → path_at bundle (inner_place index k) ≡ rule_path (group_rules_path index) rule.place
  inner_path index group k rule there at =
      ap (λ (o : Option Group). option_map_or (λ (one : Rule). rule_path (group_rules_path index) one.place) (option_and_then (λ (one : Group). slice_get one.rules k) o) []) there
      ∙ ap (λ (o : Option Rule). option_map_or (λ (one : Rule). rule_path (group_rules_path index) one.place) o []) at

  in_rule : (index : ℕ) (group : Group) (k : ℕ) (rule : Rule) (w : Written) → slice_get bundle.groups index ≡ Some group → slice_get group.rules k ≡ Some rule
      → In (written_at (rule_path (group_rules_path index) rule.place) rule.statement) w ↔ IsAt w (inner_place index k)
  in_rule index group k rule w there at = (
    λ h. (
      rule.statement,
      inner_statement index group k rule there at,
      subst (λ (path : List ℕ). In (written_at path rule.statement) w) (sym (inner_path index group k rule there at)) h,
    ),
    λ (statement, is, h).
        let e : Some rule.statement ≡ Some statement = sym (inner_statement index group k rule there at) ∙ is in
        let same : rule.statement ≡ statement = cc in
        subst (λ (s : Statement). In (written_at (rule_path (group_rules_path index) rule.place) s) w) (sym same)
        (subst (λ (path : List ℕ). In (written_at path statement) w) (inner_path index group k rule there at) h),
  )

  group_order : (index : ℕ) (group : Group) → slice_get bundle.groups index ≡ Some group → IsSoundGroup group
  group_order index group is = each_in IsSoundGroup bundle.groups group (each_from_all IsSoundGroup bundle.groups whole.groups) ((in_at bundle.groups group).1 (index, is))

  in_group : (index : ℕ) (group : Group) (w : Written) → slice_get bundle.groups index ≡ Some group
      → In (written_in_group index group) w ↔ ((k : ℕ) × (rule : Rule) × (slice_get group.rules k ≡ Some rule) × IsAt w (inner_place index k))
  in_group index group w there =
      let joined = in_joined (λ (rule : Rule). written_at (rule_path (group_rules_path index) rule.place) rule.statement) (in_file_order (λ rule. rule.place) group.rules) w in
      let sound : IsSoundGroup group = group_order index group there in (
        λ h.
            let (rule, among, is) = joined.0 h in
            let (k, at) = (in_at group.rules rule).0 ((in_file (λ (one : Rule). one.place) group.rules sound.order.each_place rule).0 among) in
            (k, rule, at, (in_rule index group k rule w there at).0 is),
        λ (k, rule, at, is).
            joined.1 (rule, (in_file (λ (one : Rule). one.place) group.rules sound.order.each_place rule).1 ((in_at group.rules rule).1 (k, at)), (in_rule index group k rule w there at).1 is),
      )

  -- ---- references

  refers_decided : (index : ℕ) (use_of : GroupUse) → IsTrue (refers_to bundle.groups index (tops.Group use_of)) ↔ (group_index bundle.groups use_of.arn ≡ Some index)
  refers_decided index use_of = by (group_index bundle.groups use_of.arn)
    where
      by : (o : Option ℕ) → IsTrue (option_map_or (λ found. found == index) o false) ↔ (o ≡ Some index)
      by None = (λ h. absurd (false≢true h), λ h. cc)
      by (Some found) = (
        λ h. ap (λ (i : ℕ). Some i) ((same_decided found index).0 h),
        λ h. (same_decided found index).1 (cc),
      )

  -- a rule of the web ACL whose body refers to the group
  abbrev Refers : ℕ → Type 0
  Refers index = (i : ℕ) × (top : TopRule) × (slice_get bundle.acl.rules i ≡ Some top) × (use_of : GroupUse) × (top.body ≡ tops.Group use_of) × (group_index bundle.groups use_of.arn ≡ Some index)

  group_body : (index : ℕ) (body : Top) → IsTrue (refers_to bundle.groups index body) → (use_of : GroupUse) × (body ≡ tops.Group use_of) × (group_index bundle.groups use_of.arn ≡ Some index)
  group_body index (tops.Plain r) h = absurd (false≢true h)
  group_body index (tops.Managed use_of) h = absurd (false≢true h)
  group_body index (tops.Group use_of) h = (use_of, refl, (refers_decided index use_of).0 h)

  referred_decided : (index : ℕ) → IsTrue (is_referred bundle index) ↔ Refers index
  referred_decided index =
      let some = any_in (λ (top : TopRule). refers_to bundle.groups index top.body) bundle.acl.rules in (
        λ h.
            let (top, among, refers) = some.0 h in
            let (i, at) = (in_at bundle.acl.rules top).0 among in
            let (use_of, body, is) = group_body index top.body refers in
            (i, top, at, use_of, body, is),
        λ (i, top, at, use_of, body, is).
            some.1 (
              top,
              (in_at bundle.acl.rules top).1 (i, at),
              subst (λ (b : Top). IsTrue (refers_to bundle.groups index b)) (sym body) ((refers_decided index use_of).1 is),
            ),
      )

  -- a rule of a group that the web ACL refers to stands at the place
  abbrev IsInner : Place → Type 0
  IsInner place = (index : ℕ) × (group : Group) × (slice_get bundle.groups index ≡ Some group) × (k : ℕ) × (rule : Rule) × (slice_get group.rules k ≡ Some rule) × (inner_place index k ≡ place) × Refers index

  in_groups : (w : Written) → In (written_in_groups bundle) w ↔ ((place : Place) × IsInner place × IsAt w place)
  in_groups w =
      let each = in_each (λ (numbered : ℕ × Group). if is_referred bundle numbered.0 then written_in_group numbered.0 numbered.1 else []) bundle.groups w in (
        λ h.
            let (index, group, at, chosen) = each.0 h in
            let (so, there) = (in_chosen (is_referred bundle index) (written_in_group index group) w).0 chosen in
            let (k, rule, stands, is) = (in_group index group w at).0 there in
            (inner_place index k, (index, group, at, k, rule, stands, refl, (referred_decided index).0 so), is),
        λ (place, (index, group, at, k, rule, stands, same, refers), is).
            each.1 (
              index,
              group,
              at,
              (in_chosen (is_referred bundle index) (written_in_group index group) w).1
                  ((referred_decided index).1 refers, (in_group index group w at).1 (k, rule, stands, subst (IsAt w) (sym same) is)),
            ),
      )

  -- ---- places

  -- a rule of the web ACL stands at the place
  abbrev IsTop : Place → Type 0
  IsTop place = (i : ℕ) × (top : TopRule) × (slice_get bundle.acl.rules i ≡ Some top) × (top_place i ≡ place)

  inner_there : (index : ℕ) (place : Place) → In (inner_places bundle.groups index) place
      ↔ ((group : Group) × (slice_get bundle.groups index ≡ Some group) × (k : ℕ) × (rule : Rule) × (slice_get group.rules k ≡ Some rule) × (inner_place index k ≡ place))
  inner_there index place =
      let some = in_option (λ (group : Group). map (λ numbered. inner_place index numbered.0) (enumerate_from 0 group.rules)) (slice_get bundle.groups index) place in (
        λ h.
            let (group, at, there) = some.0 h in
            let (k, rule, stands, same) = (in_map_numbered (inner_place index) group.rules place).0 there in
            (group, at, k, rule, stands, same),
        λ (group, at, k, rule, stands, same). some.1 (group, at, (in_map_numbered (inner_place index) group.rules place).1 (k, rule, stands, same)),
      )

  -- the places of a rule of the web ACL are its own or those of the group
  from_body : (i : ℕ) (top : TopRule) (place : Place) → slice_get bundle.acl.rules i ≡ Some top → (body : Top) → top.body ≡ body → In (places_of bundle i body) place → IsTop place ⊎ IsInner place
  from_body i top place at (tops.Plain r) is (inl same) = inl (i, top, at, same)
  from_body i top place at (tops.Plain r) is (inr none) = absurd none
  from_body i top place at (tops.Managed use_of) is (inl same) = inl (i, top, at, same)
  from_body i top place at (tops.Managed use_of) is (inr none) = absurd none
  from_body i top place at (tops.Group use_of) is there =
      let (index, found, inside) = (in_option (inner_places bundle.groups) (group_index bundle.groups use_of.arn) place).0 there in
      let (group, stands, k, rule, in_rules, same) = (inner_there index place).0 inside in
      inr (index, group, stands, k, rule, in_rules, same, (i, top, at, use_of, is, found))

  from_places : (place : Place) → In (places bundle) place → IsTop place ⊎ IsInner place
  from_places place h =
      let (i, top, at, there) = (in_each (λ (numbered : ℕ × TopRule). places_of bundle numbered.0 numbered.1.body) bundle.acl.rules place).0 h in
      from_body i top place at top.body refl there

  to_places : (place : Place) (i : ℕ) (top : TopRule) → slice_get bundle.acl.rules i ≡ Some top → In (places_of bundle i top.body) place → In (places bundle) place
  to_places place i top at there = (in_each (λ (numbered : ℕ × TopRule). places_of bundle numbered.0 numbered.1.body) bundle.acl.rules place).1 (i, top, at, there)

  own_place : (i : ℕ) (body : Top) (statement : Statement) → statement_of_top body ≡ Some statement → In (places_of bundle i body) (top_place i)
  own_place i (tops.Plain r) statement is = inl refl
  own_place i (tops.Managed use_of) statement is = inl refl
  own_place i (tops.Group use_of) statement is = absurd (cc)

  inner_in_places : (place : Place) → IsInner place → In (places bundle) place
  inner_in_places place (index, group, stands, k, rule, in_rules, same, (i, top, at, use_of, is, found)) =
      to_places place i top at
      (subst (λ (b : Top). In (places_of bundle i b) place) (sym is)
      ((in_option (inner_places bundle.groups) (group_index bundle.groups use_of.arn) place).1 (index, found, (inner_there index place).1 (group, stands, k, rule, in_rules, same))))

  -- ---- both

  -- what is written is just what is at the places
  pub written_is : (w : Written) → In (written_statements bundle) w ↔ ((place : Place) × In (places bundle) place × IsAt w place)
  written_is w =
      let both = in_append (written_in_acl bundle.acl.rules) (written_in_groups bundle) w in (
        λ h. elim (both.0 h) [
          | inl first ↦
              let (i, top, at, is) = (in_acl w).0 first in
              (top_place i, to_places (top_place i) i top at (own_place i top.body is.0 (sym (top_statement i top at) ∙ is.1)), is)
          | inr later ↦
              let (place, inside, is) = (in_groups w).0 later in
              (place, inner_in_places place inside, is)
        ],
        λ (place, there, is). both.1 (elim (from_places place there) [
          | inl top ↦ inl ((in_acl w).1 (top.0, top.1, top.2, subst (IsAt w) (sym top.3) is))
          | inr inside ↦ inr ((in_groups w).1 (place, inside, is))
        ]),
      )

  -- the same in the library's word for elements
  pub written_at_place : (w : Written) → Contains (written_statements bundle) w
      ↔ ((place : Place) × (statement : Statement) × Contains (places bundle) place × (statement_at bundle place ≡ Some statement) × Contains (written_at (path_at bundle place) statement) w)
  written_at_place w =
      let is = written_is w in (
        λ h.
            let (place, there, (statement, stands, among)) = is.0 (in_contains (written_statements bundle) w h) in
            (place, statement, contains_in (places bundle) place there, stands, contains_in (written_at (path_at bundle place) statement) w among),
        λ (place, statement, there, stands, among).
            contains_in (written_statements bundle) w
            (is.1 (place, in_contains (places bundle) place there, (statement, stands, in_contains (written_at (path_at bundle place) statement) w among))),
      )
