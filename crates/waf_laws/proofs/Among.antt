-- Which labels are among those that were added, and that they ascend.
use Rattle.std.proofs.Common.{◌≡◌, ℕ, zero, suc, ◌<◌, ◌⊎◌, ◌↔◌, List, [], ◌∷◌, ◌++◌, length, get_or, fold, All, AllPairs, IsTrue, inl, inr, refl, sym, ap, ◌∙◌, arith}
use Rattle.std.proofs.lemmas.Cmp.{nat_list_cmp_total}
use Rattle.std.proofs.lemmas.List.Kept.{AllPairs-cons}
use Rattle.std.proofs.lemmas.Map.Views.{All-insert_key}
use Rattle.std.proofs.lemmas.Map.Text.{is_eq-slice_cmp}
use Rattle.std.proofs.lemmas.Slice.Eq.{bytes_eq-Decides}
use Rattle.std.specs.BTreeSet.{insert_key}
use Rattle.std.specs.Cmp.Lexicographic.{slice_cmp}
use Rattle.std.specs.Ordering.{is_eq, is_lt, match_ordering, nat_cmp, ordering_reverse}
use Rattle.std.specs.declared.cmp.Ordering.{Ordering}
use Rattle.std.specs.declared.cmp.Ordering.TheVariants.{Less, Equal, Greater}
use Rattle.waf_model.specs.LabelMatch.{IsAmong}

-- the set of labels, ascending by bytes, with these added one after another
abbrev pub with_labels : List (List ℕ) → List (List ℕ) → List (List ℕ)
with_labels labels added = fold (λ all label. insert_key (slice_cmp nat_cmp) all label) labels added

-- ---- lists

pub first_among : (one : List ℕ) (labels : List (List ℕ)) → IsAmong (one ∷ labels) one
first_among one labels = (0, one, omega arith, refl, refl)

pub later_among : (one label : List ℕ) (labels : List (List ℕ)) → IsAmong labels label → IsAmong (one ∷ labels) label
later_among one label labels is = at is.0 is.1 is.2 is.3 is.4
  where
    at : (k : ℕ) (x : List ℕ) → k < length labels → get_or labels k x ≡ x → label ≡ x → IsAmong (one ∷ labels) label
    at k x within same e = (suc k, x, omega arith, same, e)

pub none_among : (label : List ℕ) → IsAmong [] label → ⊥
none_among label is = at is.0 is.2
  where
    at : (k : ℕ) → k < 0 → ⊥
    at k within = absurd (omega arith)

pub split_among : (one label : List ℕ) (labels : List (List ℕ)) → IsAmong (one ∷ labels) label → (label ≡ one) ⊎ IsAmong labels label
split_among one label labels is = at is.0 is.1 is.2 is.3 is.4
  where
    at : (k : ℕ) (x : List ℕ) → k < suc (length labels) → get_or (one ∷ labels) k x ≡ x → label ≡ x → (label ≡ one) ⊎ IsAmong labels label
    at zero x within same e = inl (e ∙ sym same)
    at (suc k) x within same e = inr (k, x, omega arith, same, e)

first_as : (one label : List ℕ) (labels : List (List ℕ)) → label ≡ one → IsAmong (one ∷ labels) label
first_as one label labels e = (0, one, omega arith, refl, e)

-- ---- one label more

abbrev with_label : List (List ℕ) → List ℕ → List (List ℕ)
with_label labels one = insert_key (slice_cmp nat_cmp) labels one

exact_bytes : (one other : List ℕ) → slice_cmp nat_cmp one other ≡ Equal → one ≡ other
exact_bytes one other is = (bytes_eq-Decides one other).0 (sym (is_eq-slice_cmp one other) ∙ ap is_eq is)

one_from : (labels : List (List ℕ)) (one label : List ℕ) → IsAmong (with_label labels one) label → (label ≡ one) ⊎ IsAmong labels label
one_from [] one label is = split_among one label [] is
one_from (x ∷ xs) one label is = by (one_from xs one label) (slice_cmp nat_cmp one x) is
  where
    by : (IsAmong (with_label xs one) label → (label ≡ one) ⊎ IsAmong xs label) → (o : Ordering)
        → IsAmong (match_ordering o (one ∷ x ∷ xs) (x ∷ xs) (x ∷ with_label xs one)) label → (label ≡ one) ⊎ IsAmong (x ∷ xs) label
    by rest Less is = split_among one label (x ∷ xs) is
    by rest Equal is = inr is
    by rest Greater is = elim (split_among x label (with_label xs one) is) [
      | inl e ↦ inr (first_as x label xs e)
      | inr later ↦ elim (rest later) [
        | inl e ↦ inl e
        | inr old ↦ inr (later_among x label xs old)
      ]
    ]

old_stays : (labels : List (List ℕ)) (one label : List ℕ) → IsAmong labels label → IsAmong (with_label labels one) label
old_stays [] one label is = absurd (none_among label is)
old_stays (x ∷ xs) one label is = by (old_stays xs one label) (slice_cmp nat_cmp one x)
  where
    by : (IsAmong xs label → IsAmong (with_label xs one) label) → (o : Ordering)
        → IsAmong (match_ordering o (one ∷ x ∷ xs) (x ∷ xs) (x ∷ with_label xs one)) label
    by rest Less = later_among one label (x ∷ xs) is
    by rest Equal = is
    by rest Greater = elim (split_among x label xs is) [
      | inl e ↦ first_as x label (with_label xs one) e
      | inr later ↦ later_among x label (with_label xs one) (rest later)
    ]

new_is : (labels : List (List ℕ)) (one : List ℕ) → IsAmong (with_label labels one) one
new_is [] one = first_among one []
new_is (x ∷ xs) one = by (new_is xs one) (slice_cmp nat_cmp one x) refl
  where
    by : IsAmong (with_label xs one) one → (o : Ordering) → slice_cmp nat_cmp one x ≡ o
        → IsAmong (match_ordering o (one ∷ x ∷ xs) (x ∷ xs) (x ∷ with_label xs one)) one
    by rest Less is = first_among one (x ∷ xs)
    by rest Equal is = first_as x one xs (exact_bytes one x is)
    by rest Greater is = later_among x one (with_label xs one) rest

-- ---- more labels

pub some_from : (labels added : List (List ℕ)) (label : List ℕ) → IsAmong (with_labels labels added) label → IsAmong labels label ⊎ IsAmong added label
some_from labels [] label is = inl is
some_from labels (one ∷ added) label is = elim (some_from (with_label labels one) added label is) [
  | inl before ↦ elim (one_from labels one label before) [
    | inl e ↦ inr (first_as one label added e)
    | inr old ↦ inl old
  ]
  | inr later ↦ inr (later_among one label added later)
]

pub some_to_old : (labels added : List (List ℕ)) (label : List ℕ) → IsAmong labels label → IsAmong (with_labels labels added) label
some_to_old labels [] label is = is
some_to_old labels (one ∷ added) label is = some_to_old (with_label labels one) added label (old_stays labels one label is)

pub some_to_new : (labels added : List (List ℕ)) (label : List ℕ) → IsAmong added label → IsAmong (with_labels labels added) label
some_to_new labels [] label is = absurd (none_among label is)
some_to_new labels (one ∷ added) label is = elim (split_among one label added is) [
  | inl e ↦ some_to_old (with_label labels one) added label (rw e (new_is labels one))
  | inr later ↦ some_to_new (with_label labels one) added label later
]

-- ---- two lists

pub among_append : (one other : List (List ℕ)) (label : List ℕ) → IsAmong (one ++ other) label ↔ (IsAmong one label ⊎ IsAmong other label)
among_append [] other label = (
  λ h. inr h,
  λ h. elim h [
    | inl none ↦ absurd (none_among label none)
    | inr some ↦ some
  ],
)
among_append (x ∷ one) other label = let rest = among_append one other label in (
  λ h. elim (split_among x label (one ++ other) h) [
    | inl e ↦ inl (first_as x label one e)
    | inr later ↦ elim (rest.0 later) [
      | inl some ↦ inl (later_among x label one some)
      | inr some ↦ inr some
    ]
  ],
  λ h. elim h [
    | inl some ↦ elim (split_among x label one some) [
      | inl e ↦ first_as x label (one ++ other) e
      | inr later ↦ later_among x label (one ++ other) (rest.1 (inl later))
    ]
    | inr some ↦ later_among x label (one ++ other) (rest.1 (inr some))
  ],
)

-- ---- they ascend

abbrev IsBelow : List ℕ → List ℕ → Type 0
IsBelow a b = IsTrue (is_lt (slice_cmp nat_cmp a b))

less_is : (o : Ordering) → IsTrue (is_lt o) → o ≡ Less
less_is Less below = refl
less_is Equal below = cc
less_is Greater below = cc

below_below : (a b c : List ℕ) → IsBelow a b → IsBelow b c → IsBelow a c
below_below a b c one other =
    ap is_lt (nat_list_cmp_total.trans a b c (less_is (slice_cmp nat_cmp a b) one) (less_is (slice_cmp nat_cmp b c) other))

later_above : (x : List ℕ) (xs : List (List ℕ)) → AllPairs IsBelow (x ∷ xs) → All (IsBelow x) xs
later_above x xs ascend k d within = ascend 0 (suc k) d (omega arith) (omega arith)

later_ascend : (x : List ℕ) (xs : List (List ℕ)) → AllPairs IsBelow (x ∷ xs) → AllPairs IsBelow xs
later_ascend x xs ascend i j d less within = ascend (suc i) (suc j) d (omega arith) (omega arith)

above_both : (one x : List ℕ) (xs : List (List ℕ)) → IsBelow one x → All (IsBelow x) xs → All (IsBelow one) (x ∷ xs)
above_both one x xs below above zero d within = below
above_both one x xs below above (suc k) d within = below_below one x (get_or xs k d) below (above k d (omega arith))

label_ascends : (labels : List (List ℕ)) (one : List ℕ) → AllPairs IsBelow labels → AllPairs IsBelow (with_label labels one)
label_ascends [] one ascend = AllPairs-cons IsBelow one [] (λ k d within. absurd (omega arith)) ascend
label_ascends (x ∷ xs) one ascend = by (label_ascends xs one (later_ascend x xs ascend)) (slice_cmp nat_cmp one x) refl
  where
    by : AllPairs IsBelow (with_label xs one) → (o : Ordering) → slice_cmp nat_cmp one x ≡ o
        → AllPairs IsBelow (match_ordering o (one ∷ x ∷ xs) (x ∷ xs) (x ∷ with_label xs one))
    by rest Less is = AllPairs-cons IsBelow one (x ∷ xs) (above_both one x xs (ap is_lt is) (later_above x xs ascend)) ascend
    by rest Equal is = ascend
    by rest Greater is =
        AllPairs-cons IsBelow x (with_label xs one)
        (All-insert_key (slice_cmp nat_cmp) one (IsBelow x) xs (later_above x xs ascend) (ap is_lt (nat_list_cmp_total.antisymm x one ∙ ap ordering_reverse is))) rest

pub ascending : (labels added : List (List ℕ)) → AllPairs IsBelow labels → AllPairs IsBelow (with_labels labels added)
ascending labels [] ascend = ascend
ascending labels (one ∷ added) ascend = ascending (with_label labels one) added (label_ascends labels one ascend)
