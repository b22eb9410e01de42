-- The labels of a vocabulary stand for all labels that its keys can mean, and its keys tell them apart.
use Rattle.std.proofs.Common.{◌≡◌, ℕ, ◌+◌, ◌≤◌, ◌<◌, ◌⊎◌, ◌↔◌, List, [], ◌∷◌, ◌++◌, length, max, fold, flat_map, Bool, true, false, Decides, IsTrue, inl, inr, refl, sym, ap, ◌∙◌, subst, arith, length-append}
use Rattle.std.proofs.Math.Nat.{le-max_left, le-max_right}
use Rattle.std.proofs.lemmas.Bool.{false≢true, cases_lt}
use Rattle.std.proofs.lemmas.Bool.Decides.{same_from_decides}
use Rattle.std.proofs.lemmas.List.{length-replicate}
use Rattle.std.proofs.lemmas.Slice.Eq.{bytes_eq-Decides}
use Rattle.std.specs.List.{starts_with}
use Rattle.std.specs.Prelude.{All, AllPairs, Any, ◌==◌, if◌then◌else◌}
use Rattle.std.specs.Str.{bytes_eq}
use Rattle.label_scope.proofs.Elements.{In, in_any, any_in, in_all, all_in, in_joined, in_map, in_order, apart_in_order, Greatest, some_or_none, greatest}
use Rattle.label_scope.proofs.Fronts.{Begins, begins_decided, begins_itself, begins_joined, begins_through, begins_both, longer_begins, ended_within}
use Rattle.label_scope.specs.Vocabulary.{label_key, label_keys, longest_key, filler, managed_front, labels_below, labels_meant, labels_by_scope, labels_of_key, vocabulary_of_keys, vocabulary_of}
use Rattle.label_scope.specs.declared.label_keys.LabelKey.{LabelKey}
use Rattle.waf_model.specs.LabelAgreement.{Agree, LabelTest, is_managed_label, key_of_test, pair_label_tests, test_holds}
use Rattle.waf_model.specs.LabelMatch.{ended, full_key, label_holds}
use Rattle.waf_model.specs.declared.bundle.Bundle.{Bundle}
use Rattle.waf_model.specs.declared.matching.LabelScope.{LabelScope}
use Rattle.waf_model.specs.declared.matching.LabelScope.TheVariants as scopes

-- ---- what keys mean

-- a key of that scope means the label
abbrev Means : LabelScope → List ℕ → List ℕ → Type 0
Means scopes.Label key label = label ≡ key
Means scopes.Namespace key label = Begins label (ended key)

-- each key means both labels or neither
abbrev Alike : List LabelKey → List ℕ → List ℕ → Type 0
Alike keys a b = (one : LabelKey) → In keys one → Means one.scope one.key a ↔ Means one.scope one.key b

means_decided : (scope : LabelScope) (key namespace label : List ℕ) → Decides (label_holds scope key namespace label) (Means scope (full_key key namespace) label)
means_decided scopes.Label key namespace label = bytes_eq-Decides label (full_key key namespace)
means_decided scopes.Namespace key namespace label = begins_decided label (ended (full_key key namespace))

test_decided : (test : LabelTest) (label : List ℕ) → Decides (test_holds test label) (Means test.scope (key_of_test test) label)
test_decided test label = means_decided test.scope test.key test.namespace label

alike_from_agree : (old new : Bundle) (a b : List ℕ) → Agree old new a b → Alike (label_keys old new) a b
alike_from_agree old new a b agree one among =
    let (test, there, is) = (in_map label_key (pair_label_tests old new) one).0 among in
    let same : test_holds test a ≡ test_holds test b = in_all (λ (t : LabelTest). test_holds t a ≡ test_holds t b) (pair_label_tests old new) test agree there in
    subst (λ (o : LabelKey). Means o.scope o.key a ↔ Means o.scope o.key b) is (
      λ h. (test_decided test b).0 (sym same ∙ (test_decided test a).1 h),
      λ h. (test_decided test a).0 (same ∙ (test_decided test b).1 h),
    )

agree_from_alike : (old new : Bundle) (a b : List ℕ) → Alike (label_keys old new) a b → Agree old new a b
agree_from_alike old new a b alike =
    all_in (λ (t : LabelTest). test_holds t a ≡ test_holds t b) (pair_label_tests old new) (λ test there.
    let both = alike (label_key test) ((in_map label_key (pair_label_tests old new) (label_key test)).1 (test, there, refl)) in
    same_from_decides (test_holds test a) (test_holds test b) (test_decided test a) (λ h. both.1 ((test_decided test b).0 h), λ h. (test_decided test b).1 (both.0 h)))

-- ---- the longest key

start_fits : (keys : List LabelKey) (start : ℕ) → start ≤ fold (λ longest one. max longest (length one.key)) start keys
start_fits [] start = omega arith
start_fits (one ∷ keys) start = omega (arith, le-max_left start (length one.key), start_fits keys (max start (length one.key)))

key_fits : (keys : List LabelKey) (start : ℕ) (one : LabelKey) → In keys one → length one.key ≤ fold (λ longest one. max longest (length one.key)) start keys
key_fits [] start one none = absurd none
key_fits (first ∷ keys) start one (inl same) =
    omega (arith, ap (λ (o : LabelKey). length o.key) same, le-max_right start (length first.key), start_fits keys (max start (length first.key)))
key_fits (first ∷ keys) start one (inr later) = key_fits keys (max start (length first.key)) one later

-- ---- the labels of one key

meant_in : (key label : List ℕ) → label ≡ key → Begins label managed_front → In (labels_meant key) label
meant_in key label same managed =
    let is : is_managed_label key ≡ true = (begins_decided key managed_front).1 (subst (λ (l : List ℕ). Begins l managed_front) same managed) in
    subst (λ (t : Bool). In (if t then key ∷ [] else []) label) (sym is) (inl (sym same))

meant_of : (key label : List ℕ) → In (labels_meant key) label → (label ≡ key) × Begins label managed_front
meant_of key label there = by (is_managed_label key) refl there
  where
    by : (managed : Bool) → is_managed_label key ≡ managed → In (if managed then key ∷ [] else []) label → (label ≡ key) × Begins label managed_front
    by true is (inl same) = (sym same, subst (λ (l : List ℕ). Begins l managed_front) same ((begins_decided key managed_front).0 is))
    by true is (inr none) = absurd none
    by false is none = absurd none

below_in : (more key label : List ℕ) → Begins label managed_front → Begins label key
    → (base : List ℕ) × In (labels_below more key) (base ++ more) × Begins label base × Begins base key
below_in more key label managed begins = by (is_managed_label key) refl
  where
    front_covers : is_managed_label key ≡ false → (length key < length managed_front) ⊎ (length managed_front ≤ length key) → Begins managed_front key
    front_covers is (inr long) = absurd (false≢true (sym is ∙ (begins_decided key managed_front).1 (longer_begins label managed_front key managed begins long)))
    front_covers is (inl short) = longer_begins label key managed_front begins managed (omega arith)

    by : (test : Bool) → is_managed_label key ≡ test → (base : List ℕ)
        × In (if test then (key ++ more) ∷ [] else if starts_with ◌==◌ managed_front key then (managed_front ++ more) ∷ [] else []) (base ++ more)
        × Begins label base × Begins base key
    by true is = (key, inl refl, begins, begins_itself key)
    by false is =
        let covers : Begins managed_front key = front_covers is (cases_lt (length key) (length managed_front)) in
        let starts : starts_with ◌==◌ managed_front key ≡ true = (begins_decided managed_front key).1 covers in
        (managed_front, subst (λ (t : Bool). In (if t then (managed_front ++ more) ∷ [] else []) (managed_front ++ more)) (sym starts) (inl refl), managed, covers)

below_of : (more key label : List ℕ) → In (labels_below more key) label
    → (base : List ℕ) × (label ≡ base ++ more) × Begins base managed_front × ((base ≡ key) ⊎ (base ≡ managed_front))
below_of more key label there = by (is_managed_label key) refl (starts_with ◌==◌ managed_front key) there
  where
    by : (managed : Bool) → is_managed_label key ≡ managed → (starts : Bool)
        → In (if managed then (key ++ more) ∷ [] else if starts then (managed_front ++ more) ∷ [] else []) label
        → (base : List ℕ) × (label ≡ base ++ more) × Begins base managed_front × ((base ≡ key) ⊎ (base ≡ managed_front))
    by true is starts (inl same) = (key, sym same, (begins_decided key managed_front).0 is, inl refl)
    by true is starts (inr none) = absurd none
    by false is true (inl same) = (managed_front, sym same, begins_itself managed_front, inr refl)
    by false is true (inr none) = absurd none
    by false is false none = absurd none

-- ---- the labels of all keys

module _ (keys : List LabelKey) where
  in_vocabulary : (label : List ℕ) (one : LabelKey) → In keys one → In (labels_of_key (filler keys) one) label → In (vocabulary_of_keys keys) label
  in_vocabulary label one among there =
      (in_order [] (flat_map (labels_of_key (filler keys)) keys) label).1 (inr ((in_joined (labels_of_key (filler keys)) keys label).1 (one, among, there)))

  of_vocabulary : (label : List ℕ) → In (vocabulary_of_keys keys) label → (one : LabelKey) × In keys one × In (labels_of_key (filler keys) one) label
  of_vocabulary label there = elim ((in_order [] (flat_map (labels_of_key (filler keys)) keys) label).0 there) [
    | inl none ↦ absurd none
    | inr some ↦ (in_joined (labels_of_key (filler keys)) keys label).0 some
  ]

  -- ---- one that agrees

  -- a LABEL key that is the label, a NAMESPACE key that it is below
  abbrev Exactly : List ℕ → LabelKey → Type 0
  Exactly label one = (one.scope ≡ scopes.Label) × (label ≡ one.key)

  abbrev Below : List ℕ → LabelKey → Type 0
  Below label one = (one.scope ≡ scopes.Namespace) × Begins label (ended one.key)

  from_decides : {P : Type 0} (test : Bool) → Decides test P → P ⊎ (P → ⊥)
  from_decides true decides = inl (decides.0 refl)
  from_decides false decides = inr (λ h. false≢true (decides.1 h))

  exactly_known : (label : List ℕ) (one : LabelKey) → Exactly label one ⊎ (Exactly label one → ⊥)
  exactly_known label one = by one.scope refl (from_decides (bytes_eq label one.key) (bytes_eq-Decides label one.key))
    where
      by : (scope : LabelScope) → one.scope ≡ scope → (label ≡ one.key) ⊎ (label ≡ one.key → ⊥) → Exactly label one ⊎ (Exactly label one → ⊥)
      by scopes.Label is (inl same) = inl (is, same)
      by scopes.Label is (inr other) = inr (λ h. other h.1)
      by scopes.Namespace is known = inr (λ h. let differ : scopes.Namespace ≡ scopes.Label = sym is ∙ h.0 in cc)

  below_known : (label : List ℕ) (one : LabelKey) → Below label one ⊎ (Below label one → ⊥)
  below_known label one = by one.scope refl (from_decides (starts_with ◌==◌ label (ended one.key)) (begins_decided label (ended one.key)))
    where
      by : (scope : LabelScope) → one.scope ≡ scope → Begins label (ended one.key) ⊎ (Begins label (ended one.key) → ⊥) → Below label one ⊎ (Below label one → ⊥)
      by scopes.Namespace is (inl begins) = inl (is, begins)
      by scopes.Namespace is (inr other) = inr (λ h. other h.1)
      by scopes.Label is known = inr (λ h. let differ : scopes.Label ≡ scopes.Namespace = sym is ∙ h.0 in cc)

  means_cases : (label : List ℕ) (one : LabelKey) → Means one.scope one.key label → Exactly label one ⊎ Below label one
  means_cases label one = by one.scope refl
    where
      by : (scope : LabelScope) → one.scope ≡ scope → Means scope one.key label → Exactly label one ⊎ Below label one
      by scopes.Label is same = inl (is, same)
      by scopes.Namespace is begins = inr (is, begins)

  -- a label of the vocabulary that each key means where it means this one
  abbrev StandsFor : List ℕ → Type 0
  StandsFor label = (one : List ℕ) × In (vocabulary_of_keys keys) one × Alike keys label one

  as_itself : (label : List ℕ) → Begins label managed_front → (one : LabelKey) → In keys one → Exactly label one → StandsFor label
  as_itself label managed one among (scope, same) = (
    label,
    in_vocabulary label one among (subst (λ (s : LabelScope). In (labels_by_scope (filler keys) s one.key) label) (sym scope) (meant_in one.key label same managed)),
    λ other there. (λ h. h, λ h. h),
  )

  -- with the filler behind its base a label is longer than each key, and below the same keys
  as_filled : (label : List ℕ) → Begins label managed_front → ((one : LabelKey) → In keys one → Exactly label one → ⊥) → (wide : LabelKey) → In keys wide → Below label wide
      → ((other : LabelKey) → In keys other → Below label other → length (ended other.key) ≤ length (ended wide.key)) → StandsFor label
  as_filled label managed none wide among (scope, begins) most =
      let (base, there, before, covers) = below_in (filler keys) (ended wide.key) label managed begins in (
        base ++ filler keys,
        in_vocabulary (base ++ filler keys) wide among (subst (λ (s : LabelScope). In (labels_by_scope (filler keys) s wide.key) (base ++ filler keys)) (sym scope) there),
        λ other is. alike base before covers other is other.scope refl,
      )
    where
      alike : (base : List ℕ) → Begins label base → Begins base (ended wide.key) → (other : LabelKey) → In keys other → (scope' : LabelScope) → other.scope ≡ scope'
          → Means scope' other.key label ↔ Means scope' other.key (base ++ filler keys)
      alike base before covers other there scopes.Label is = (
        λ same. absurd (none other there (is, same)),
        λ same. absurd (omega (arith, ap length same, length-append base (filler keys), length-replicate {A = ℕ} (longest_key keys + 1) 120, key_fits keys 0 other there)),
      )
      alike base before covers other there scopes.Namespace is = (
        λ h.
            let inside = longer_begins label (ended other.key) (ended wide.key) h begins (most other there (is, h)) in
            begins_through (base ++ filler keys) base (ended other.key) (begins_joined base (filler keys)) (begins_through base (ended wide.key) (ended other.key) covers inside),
        λ h. begins_through label base (ended other.key) before (ended_within base (longest_key keys + 1) other.key h),
      )

  stands_for : (label : List ℕ) → Begins label managed_front → (one : LabelKey) → In keys one → Means one.scope one.key label → StandsFor label
  stands_for label managed one among means =
      by (some_or_none (Exactly label) (exactly_known label) keys) (greatest (Below label) (λ o. length (ended o.key)) (below_known label) keys)
    where
      by : ((o : LabelKey) × In keys o × Exactly label o) ⊎ ((o : LabelKey) → In keys o → Exactly label o → ⊥)
          → Greatest (Below label) (λ o. length (ended o.key)) keys ⊎ ((o : LabelKey) → In keys o → Below label o → ⊥)
          → StandsFor label
      by (inl (o, there, exactly)) wide = as_itself label managed o there exactly
      by (inr none) (inl (wide, there, below, most)) = as_filled label managed none wide there below most
      by (inr none) (inr nothing) = absurd (elim (means_cases label one means) [
        | inl exactly ↦ none one among exactly
        | inr below ↦ nothing one among below
      ])

  -- ---- no two agree

  -- a label that is a key, and one that is a base with the filler behind it
  abbrev IsKey : List ℕ → Type 0
  IsKey label = (one : LabelKey) × In keys one × Exactly label one × Begins label managed_front

  abbrev HasBase : List ℕ → List ℕ → Type 0
  HasBase label base = (label ≡ base ++ filler keys) × Begins base managed_front
      × (((one : LabelKey) × In keys one × (one.scope ≡ scopes.Namespace) × (base ≡ ended one.key)) ⊎ (base ≡ managed_front))

  origin : (label : List ℕ) → In (vocabulary_of_keys keys) label → IsKey label ⊎ ((base : List ℕ) × HasBase label base)
  origin label there = let (one, among, is) = of_vocabulary label there in by one among one.scope refl is
    where
      by : (one : LabelKey) → In keys one → (scope : LabelScope) → one.scope ≡ scope → In (labels_by_scope (filler keys) scope one.key) label
          → IsKey label ⊎ ((base : List ℕ) × HasBase label base)
      by one among scopes.Label is within = let (same, managed) = meant_of one.key label within in inl (one, among, (is, same), managed)
      by one among scopes.Namespace is within =
          let (base, filled, managed, from) = below_of (filler keys) (ended one.key) label within in
          inr (
            base,
            (
              filled,
              managed,
              elim from [
                | inl same ↦ inl (one, among, is, same)
                | inr front ↦ inr front
              ],
            ),
          )

  -- a base begins with each base whose label agrees
  base_within : (a b base other : List ℕ) → HasBase a base → HasBase b other → Alike keys a b → Begins other base
  base_within a b base other (filled, managed, inr front) (same, (rest, begins), from) alike = (rest, begins ∙ ap (λ l. l ++ rest) (sym front))
  base_within a b base other (filled, managed, inl (one, among, scope, key)) (same, managed', from) alike =
      let onward : Begins a (ended one.key) → Begins b (ended one.key) =
      subst (λ (s : LabelScope). Means s one.key a → Means s one.key b) scope (alike one among).0 in
      let (rest, is) = onward (filler keys, filled ∙ ap (λ l. l ++ filler keys) key) in
      let (between, splits) = ended_within other (longest_key keys + 1) one.key (rest, sym same ∙ is) in
      (between, splits ∙ ap (λ l. l ++ between) (sym key))

  same_key : (a b : List ℕ) → IsKey a → Alike keys a b → b ≡ a
  same_key a b (one, among, (scope, same), managed) alike =
      let onward : a ≡ one.key → b ≡ one.key = subst (λ (s : LabelScope). Means s one.key a → Means s one.key b) scope (alike one among).0 in
      onward same ∙ sym same

  told_apart : (a b : List ℕ) → In (vocabulary_of_keys keys) a → In (vocabulary_of_keys keys) b → Alike keys a b → a ≡ b
  told_apart a b one other alike = by (origin a one) (origin b other)
    where
      back : Alike keys b a
      back key among = ((alike key among).1, (alike key among).0)

      by : IsKey a ⊎ ((base : List ℕ) × HasBase a base) → IsKey b ⊎ ((base : List ℕ) × HasBase b base) → a ≡ b
      by (inl key) from = sym (same_key a b key alike)
      by (inr filled) (inl key) = same_key b a key back
      by (inr (base, first)) (inr (base', second)) =
          let same : base ≡ base' = begins_both base base' (base_within b a base' base second first back) (base_within a b base base' first second alike) in
          first.0 ∙ ap (λ l. l ++ filler keys) same ∙ sym second.0

  begins_managed : (label : List ℕ) → In (vocabulary_of_keys keys) label → Begins label managed_front
  begins_managed label there = by (origin label there)
    where
      by : IsKey label ⊎ ((base : List ℕ) × HasBase label base) → Begins label managed_front
      by (inl (one, among, exactly, managed)) = managed
      by (inr (base, (filled, managed, from))) = subst (λ (l : List ℕ). Begins l managed_front) (sym filled) (begins_through (base ++ filler keys) base managed_front (begins_joined base (filler keys)) managed)

-- ---- the laws

pub each_has_one : (old new : Bundle) (label : List ℕ) → IsTrue (is_managed_label label) → Any (λ test. IsTrue (test_holds test label)) (pair_label_tests old new)
    → Any (Agree old new label) (vocabulary_of old new)
each_has_one old new label managed some =
    let (test, among, holds) = in_any (λ (t : LabelTest). IsTrue (test_holds t label)) (pair_label_tests old new) some in
    let there : In (label_keys old new) (label_key test) = (in_map label_key (pair_label_tests old new) (label_key test)).1 (test, among, refl) in
    let (one, is, alike) = stands_for (label_keys old new) label ((begins_decided label managed_front).0 managed) (label_key test) there ((test_decided test label).0 holds) in
    any_in (Agree old new label) (vocabulary_of old new) one is (agree_from_alike old new label one alike)

pub no_two_agree : (old new : Bundle) → AllPairs (λ a b. Agree old new a b → ⊥) (vocabulary_of old new)
no_two_agree old new =
    apart_in_order (Agree old new) (flat_map (labels_of_key (filler (label_keys old new))) (label_keys old new)) (λ a b one other agree.
    told_apart (label_keys old new) a b one other (alike_from_agree old new a b agree))

pub all_managed : (old new : Bundle) → All (λ one. IsTrue (is_managed_label one)) (vocabulary_of old new)
all_managed old new =
    all_in (λ (one : List ℕ). IsTrue (is_managed_label one)) (vocabulary_of old new) (λ one there. (begins_decided one managed_front).1 (begins_managed (label_keys old new) one there))
