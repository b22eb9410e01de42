-- What merged spans keep.
use Rattle.std.proofs.Common.{◌≡◌, ℕ, zero, suc, ◌+◌, ◌<◌, ◌≤◌, max, Bool, true, false, cond, List, [], ◌∷◌, length, get_or, refl, sym, ap, ◌∙◌, arith, leb}
use Rattle.std.proofs.lemmas.Bool.{leb-true, leb-false}
use Rattle.std.proofs.lemmas.Bool.Decides.{nat_tests}
use Rattle.std.proofs.lemmas.List.Elements.{All-nil, All-cons, All-head, All-tail}
use Rattle.std.proofs.lemmas.List.Sorted.{All-permutation, list_any-IsPermutation}
use Rattle.std.specs.List.{list_any}
use Rattle.std.specs.List.Sorted.{IsNonDecreasingBy, IsPermutation}
use Rattle.std.specs.Prelude.{◌||◌, All}
use Rattle.ip_cover.specs.Merged.{joined, merged_from, merged_of}
use Rattle.ip_cover.specs.Spans.{AreApart6, is_from_to, is_in6}
use Rattle.ip_cover.specs.declared.span.Span6.{Span6}

-- spans whose first numbers don't fall, from a number on
Ascend : ℕ → List Span6 → Type 0
Ascend low [] = Unit {0}
Ascend low (span ∷ rest) = (low ≤ span.first) × Ascend span.first rest

ascend_from : (span : Span6) (rest : List Span6) → IsNonDecreasingBy (λ (s : Span6). s.first) (span ∷ rest) → Ascend span.first rest
unfolding Ascend
ascend_from span [] sorted = tt
ascend_from span (next ∷ rest) sorted =
    (sorted 0 1 span (omega arith) (omega arith), ascend_from next rest (λ i j d le lt. sorted (suc i) (suc j) d (omega arith) (omega arith)))

lower : (low high : ℕ) (rest : List Span6) → low ≤ high → Ascend high rest → Ascend low rest
unfolding Ascend
lower low high [] le up = tt
lower low high (span ∷ rest) le up = (omega (arith, up.0), up.1)

or_assoc : (a b c : Bool) → ((a || b) || c) ≡ (a || (b || c))
or_assoc true b c = refl
or_assoc false b c = refl

-- two spans that reach each other have the numbers of both
both : (first last start end n : ℕ) → first ≤ start → start ≤ last + 1 → is_from_to first (max last end) n ≡ (is_from_to first last n || is_from_to start end n)
both first last start end n order reach = grind (arith, nat_tests)

same_at : (n : ℕ) (wider span : Span6) (rest : List Span6) (test : Bool) → leb span.first (wider.last + 1) ≡ test → wider.first ≤ span.first
    → list_any (is_in6 n) (merged_from (joined wider span) rest) ≡ (is_in6 n (joined wider span) || list_any (is_in6 n) rest)
    → list_any (is_in6 n) (merged_from span rest) ≡ (is_in6 n span || list_any (is_in6 n) rest)
    → list_any (is_in6 n) (cond test (merged_from (joined wider span) rest) (wider ∷ merged_from span rest)) ≡ (is_in6 n wider || (is_in6 n span || list_any (is_in6 n) rest))
same_at n wider span rest true is order grown next =
    grown ∙ ap (λ b. b || list_any (is_in6 n) rest) (both wider.first wider.last span.first span.last n order (leb-true span.first (wider.last + 1) is))
    ∙ or_assoc (is_in6 n wider) (is_in6 n span) (list_any (is_in6 n) rest)
same_at n wider span rest false is order grown next = ap (λ b. is_in6 n wider || b) next

same : (n : ℕ) (wider : Span6) (rest : List Span6) → Ascend wider.first rest → list_any (is_in6 n) (merged_from wider rest) ≡ (is_in6 n wider || list_any (is_in6 n) rest)
unfolding Ascend
same n wider [] up = refl
same n wider (span ∷ rest) up =
    same_at n wider span rest (leb span.first (wider.last + 1)) refl up.0 (same n (joined wider span) rest (lower wider.first span.first rest up.0 up.1)) (same n span rest up.1)

-- a list whose first span begins after a number
Begins : ℕ → List Span6 → Type 0
Begins low [] = Unit {0}
Begins low (span ∷ rest) = low < span.first

-- each span has a number
abbrev pub Filled : List Span6 → Type 0
Filled spans = All (λ (s : Span6). s.first ≤ s.last) spans

apart_nil : AreApart6 []
apart_nil = (All-nil (λ (s : Span6). s.first ≤ s.last), λ k d h. absurd (omega arith))

adjacent : (span : Span6) (rest : List Span6) → Begins (span.last + 1) rest → AreApart6 rest → (k : ℕ) (d : Span6) → k + 1 < length (span ∷ rest)
    → (get_or (span ∷ rest) k d).last + 1 < (get_or (span ∷ rest) (k + 1) d).first
unfolding Begins
adjacent span [] begins apart k d h = absurd (omega arith)
adjacent span (next ∷ rest) begins apart zero d h = begins
adjacent span (next ∷ rest) begins apart (suc k) d h = let next_is : suc k + 1 ≡ suc (k + 1) = omega arith in rw next_is (apart.1 k d (omega arith))

apart_cons : (span : Span6) (rest : List Span6) → span.first ≤ span.last → Begins (span.last + 1) rest → AreApart6 rest → AreApart6 (span ∷ rest)
apart_cons span rest filled begins apart = (All-cons (λ (s : Span6). s.first ≤ s.last) span rest filled apart.0, adjacent span rest begins apart)

-- the spans are apart, and begin where the first does
abbrev Apart : ℕ → List Span6 → Type 0
Apart start spans = AreApart6 spans × ((low : ℕ) → low < start → Begins low spans)

apart_at : (wider span : Span6) (rest : List Span6) (test : Bool) → leb span.first (wider.last + 1) ≡ test → wider.first ≤ wider.last
    → Apart wider.first (merged_from (joined wider span) rest) → Apart span.first (merged_from span rest)
    → Apart wider.first (cond test (merged_from (joined wider span) rest) (wider ∷ merged_from span rest))
unfolding Begins
apart_at wider span rest true is filled grown next = grown
apart_at wider span rest false is filled grown next =
    let gap : wider.last + 1 < span.first = leb-false span.first (wider.last + 1) is in
    (apart_cons wider (merged_from span rest) filled (next.1 (wider.last + 1) gap) next.0, λ low below. below)

apart : (wider : Span6) (rest : List Span6) → wider.first ≤ wider.last → Filled rest → Apart wider.first (merged_from wider rest)
unfolding Begins
apart wider [] filled all = (apart_cons wider [] filled tt apart_nil, λ low below. below)
apart wider (span ∷ rest) filled all =
    let span_filled : span.first ≤ span.last = All-head (λ (s : Span6). s.first ≤ s.last) span rest all in
    let rest_filled = All-tail (λ (s : Span6). s.first ≤ s.last) span rest all in
    apart_at wider span rest (leb span.first (wider.last + 1)) refl filled (apart (joined wider span) rest (omega arith) rest_filled) (apart span rest span_filled rest_filled)

below_at : (bound : ℕ) (wider span : Span6) (rest : List Span6) (test : Bool) → wider.last < bound
    → All (λ (s : Span6). s.last < bound) (merged_from (joined wider span) rest) → All (λ (s : Span6). s.last < bound) (merged_from span rest)
    → All (λ (s : Span6). s.last < bound) (cond test (merged_from (joined wider span) rest) (wider ∷ merged_from span rest))
below_at bound wider span rest true below grown next = grown
below_at bound wider span rest false below grown next = All-cons (λ (s : Span6). s.last < bound) wider (merged_from span rest) below next

below_from : (bound : ℕ) (wider : Span6) (rest : List Span6) → wider.last < bound → All (λ (s : Span6). s.last < bound) rest → All (λ (s : Span6). s.last < bound) (merged_from wider rest)
below_from bound wider [] below all = All-cons (λ (s : Span6). s.last < bound) wider [] below all
below_from bound wider (span ∷ rest) below all =
    let span_below : span.last < bound = All-head (λ (s : Span6). s.last < bound) span rest all in
    let rest_below = All-tail (λ (s : Span6). s.last < bound) span rest all in
    below_at bound wider span rest (leb span.first (wider.last + 1)) below (below_from bound (joined wider span) rest (omega arith) rest_below) (below_from bound span rest span_below rest_below)

pub merged_apart : (spans : List Span6) → Filled spans → AreApart6 (merged_of spans)
merged_apart [] all = apart_nil
merged_apart (span ∷ rest) all = (apart span rest (All-head (λ (s : Span6). s.first ≤ s.last) span rest all) (All-tail (λ (s : Span6). s.first ≤ s.last) span rest all)).0

pub merged_same : (spans : List Span6) → IsNonDecreasingBy (λ (s : Span6). s.first) spans → (n : ℕ) → list_any (is_in6 n) (merged_of spans) ≡ list_any (is_in6 n) spans
merged_same [] sorted n = refl
merged_same (span ∷ rest) sorted n = same n span rest (ascend_from span rest sorted)

pub merged_below : (bound : ℕ) (spans : List Span6) → All (λ (s : Span6). s.last < bound) spans → All (λ (s : Span6). s.last < bound) (merged_of spans)
merged_below bound [] all = all
merged_below bound (span ∷ rest) all = below_from bound span rest (All-head (λ (s : Span6). s.last < bound) span rest all) (All-tail (λ (s : Span6). s.last < bound) span rest all)

-- the same of a list that a sort left, and of what is equal to it
module _ (given spans sorted merged : List Span6) (moved : IsPermutation spans sorted) (seen : given ≡ sorted) (is : merged ≡ merged_of given) where
  pub sorted_apart : Filled spans → AreApart6 merged
  sorted_apart all = rw (is, seen) (merged_apart sorted (All-permutation (λ (s : Span6). s.first ≤ s.last) spans sorted moved all))

  pub sorted_same : IsNonDecreasingBy (λ (s : Span6). s.first) sorted → (n : ℕ) → list_any (is_in6 n) merged ≡ list_any (is_in6 n) spans
  sorted_same up n = rw (is, seen) (merged_same sorted up n ∙ sym (list_any-IsPermutation (is_in6 n) spans sorted moved))

  pub sorted_below : (bound : ℕ) → All (λ (s : Span6). s.last < bound) spans → All (λ (s : Span6). s.last < bound) merged
  sorted_below bound all = rw (is, seen) (merged_below bound sorted (All-permutation (λ (s : Span6). s.last < bound) spans sorted moved all))
