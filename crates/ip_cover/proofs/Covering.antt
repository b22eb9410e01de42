-- An address is in some range of a list just where it is in some span of the ranges.
use Rattle.std.proofs.Common.{◌≡◌, ℕ, ◌+◌, ◌-◌, ◌^◌, ◌<◌, ◌≤◌, Bool, true, false, List, [], ◌∷◌, map, get_or, Option, Some, None, refl, sym, ap, ◌∙◌, subst, arith, leb, le-leb, true≢false, lit≤}
use Rattle.std.proofs.Math.ListN.{get_or-map}
use Rattle.std.proofs.Math.Nat.{one-le-pow}
use Rattle.std.proofs.lemmas.Bool.{leb-true}
use Rattle.std.proofs.lemmas.List.{length-map}
use Rattle.std.proofs.lemmas.List.Elements.{All-nil, All-cons}
use Rattle.std.proofs.lemmas.Option.{none-some}
use Rattle.std.proofs.lemmas.List.Folds.{Any-from_list_any, list_any-from_Any}
use Rattle.std.specs.List.{list_any, filter_map, cons_option}
use Rattle.std.specs.Prelude.{◌||◌, ◌↔◌, Any, All, IsTrue}
use Rattle.waf_model.specs.AddressRange.{BeginAlike, IsInRange, IsInSome}
use Rattle.waf_model.specs.declared.address.Address.{Address}
use Rattle.waf_model.specs.declared.address.Address.TheVariants.{V4, V6}
use Rattle.waf_model.specs.declared.address.Cidr.{Cidr}
use Rattle.ip_cover.specs.Cover.{IsCovered}
use Rattle.ip_cover.specs.Spans.{AreApart4, AreApart6, is_from_to, is_in4, is_in6, span_around, v4_span_at, v4_span_of, v6_span_at, v6_span_of, wide}
use Rattle.ip_cover.specs.declared.cover.IpCover.{IpCover}
use Rattle.ip_cover.specs.declared.span.Span4.{Span4}
use Rattle.ip_cover.specs.declared.span.Span6.{Span6}
use Rattle.ip_cover.proofs.Sizes.{and_true, same_quotient}

-- a fact of some element just where its test passes some
any_by : {X : Type 0} (P : X → Type 0) (p : X → Bool) → ((x : X) → P x ↔ (p x ≡ true)) → (xs : List X) → Any P xs ↔ (list_any p xs ≡ true)
any_by P p same xs = (
  λ some. list_any-from_Any p xs (some.0, some.1, some.2, some.3, (same some.1).0 some.4),
  λ passes. let some = Any-from_list_any p xs passes in (some.0, some.1, some.2, some.3, (same some.1).1 some.4),
)

from_to : (first last n : ℕ) → ((first ≤ n) × (n ≤ last)) ↔ (is_from_to first last n ≡ true)
from_to first last n = (
  λ inside. rw (le-leb first n inside.0, le-leb n last inside.1) refl,
  λ passes. let (above, below) = and_true (leb first n) (leb n last) passes in (leb-true first n above, leb-true n last below),
)

-- the number is in the span, if there is one
in_option : ℕ → Option Span6 → Bool
in_option n None = false
in_option n (Some span) = is_in6 n span

cons_any : (n : ℕ) (o : Option Span6) (spans : List Span6) → list_any (is_in6 n) (cons_option o spans) ≡ (in_option n o || list_any (is_in6 n) spans)
unfolding in_option
cons_any n None spans = refl
cons_any n (Some span) spans = refl

any_spans : (n : ℕ) (span_of : Cidr → Option Span6) (ranges : List Cidr) → list_any (is_in6 n) (filter_map span_of ranges) ≡ list_any (λ r. in_option n (span_of r)) ranges
any_spans n span_of [] = refl
any_spans n span_of (range ∷ ranges) = cons_any n (span_of range) (filter_map span_of ranges) ∙ ap (λ b. in_option n (span_of range) || b) (any_spans n span_of ranges)

pub some_power : (k : ℕ) → 0 < 2 ^ k
some_power k = omega (arith, one-le-pow k 2 (lit≤ tt))

v4_alike : (n bits : ℕ) (base : Address) → BeginAlike bits base (V4 n) ↔ (in_option n (v4_span_at bits base) ≡ true)
unfolding in_option
v4_alike n bits (V4 base) = same_quotient (2 ^ (32 - bits)) base n (some_power (32 - bits))
v4_alike n bits (V6 base) = (λ none. absurd none, λ none. absurd (true≢false (sym none)))

v6_alike : (n bits : ℕ) (base : Address) → BeginAlike bits base (V6 n) ↔ (in_option n (v6_span_at bits base) ≡ true)
unfolding in_option
v6_alike n bits (V4 base) = (λ none. absurd none, λ none. absurd (true≢false (sym none)))
v6_alike n bits (V6 base) = same_quotient (2 ^ (128 - bits)) base n (some_power (128 - bits))

-- from a fact to another through equal tests
through : (P Q : Type 0) (p q : Bool) → P ↔ (p ≡ true) → Q ↔ (q ≡ true) → p ≡ q → P ↔ Q
through P Q p q left right same = (λ x. right.1 (sym same ∙ left.0 x), λ y. left.1 (same ∙ right.0 y))

v4_range : (n : ℕ) (range : Cidr) → IsInRange range (V4 n) ↔ (in_option n (v4_span_of range) ≡ true)
unfolding v4_span_of
v4_range n range = v4_alike n range.bits range.base

v6_range : (n : ℕ) (range : Cidr) → IsInRange range (V6 n) ↔ (in_option n (v6_span_of range) ≡ true)
unfolding v6_span_of
v6_range n range = v6_alike n range.bits range.base

pub v4_covered : (n : ℕ) (spans : List Span4) → Any (λ (s : Span4). (s.first ≤ n) × (n ≤ s.last)) spans ↔ (list_any (is_in4 n) spans ≡ true)
v4_covered n spans = any_by (λ (s : Span4). (s.first ≤ n) × (n ≤ s.last)) (is_in4 n) (λ s. from_to s.first s.last n) spans

pub v6_covered : (n : ℕ) (spans : List Span6) → Any (λ (s : Span6). (s.first ≤ n) × (n ≤ s.last)) spans ↔ (list_any (is_in6 n) spans ≡ true)
v6_covered n spans = any_by (λ (s : Span6). (s.first ≤ n) × (n ≤ s.last)) (is_in6 n) (λ s. from_to s.first s.last n) spans

v4_ranges : (n : ℕ) (ranges : List Cidr) → IsInSome ranges (V4 n) ↔ (list_any (λ r. in_option n (v4_span_of r)) ranges ≡ true)
v4_ranges n ranges = any_by (λ r. IsInRange r (V4 n)) (λ r. in_option n (v4_span_of r)) (v4_range n) ranges

v6_ranges : (n : ℕ) (ranges : List Cidr) → IsInSome ranges (V6 n) ↔ (list_any (λ r. in_option n (v6_span_of r)) ranges ≡ true)
v6_ranges n ranges = any_by (λ r. IsInRange r (V6 n)) (λ r. in_option n (v6_span_of r)) (v6_range n) ranges

pub covers : (cover : IpCover) (ranges : List Cidr)
    → ((n : ℕ) → list_any (is_in4 n) cover.v4.items ≡ list_any (is_in6 n) (filter_map v4_span_of ranges))
    → ((n : ℕ) → list_any (is_in6 n) cover.v6.items ≡ list_any (is_in6 n) (filter_map v6_span_of ranges))
    → (address : Address) → IsCovered cover address ↔ IsInSome ranges address
covers cover ranges v4 v6 (V4 n) = through _ _ _ _ (v4_covered n cover.v4.items) (v4_ranges n ranges) (v4 n ∙ any_spans n v4_span_of ranges)
covers cover ranges v4 v6 (V6 n) = through _ _ _ _ (v6_covered n cover.v6.items) (v6_ranges n ranges) (v6 n ∙ any_spans n v6_span_of ranges)

-- spans with numbers of 32 bits have the same numbers
pub wide_any : (n : ℕ) (spans : List Span4) → list_any (is_in6 n) (map wide spans) ≡ list_any (is_in4 n) spans
wide_any n [] = refl
wide_any n (span ∷ spans) = ap (λ b. is_in4 n span || b) (wide_any n spans)

-- each span of a range has a number
Filled : List Span6 → Type 0
Filled spans = All (λ (s : Span6). s.first ≤ s.last) spans

cons_filled : (o : Option Span6) (spans : List Span6) → ((s : Span6) → o ≡ Some s → s.first ≤ s.last) → Filled spans → Filled (cons_option o spans)
unfolding Filled
cons_filled None spans filled all = all
cons_filled (Some span) spans filled all = All-cons (λ (s : Span6). s.first ≤ s.last) span spans (filled span refl) all

all_filled : (span_of : Cidr → Option Span6) → ((range : Cidr) (s : Span6) → span_of range ≡ Some s → s.first ≤ s.last) → (ranges : List Cidr) → Filled (filter_map span_of ranges)
unfolding Filled
all_filled span_of filled [] = All-nil (λ (s : Span6). s.first ≤ s.last)
all_filled span_of filled (range ∷ ranges) = cons_filled (span_of range) (filter_map span_of ranges) (filled range) (all_filled span_of filled ranges)

some_span : (s t : Span6) → Some s ≡ Some t → s ≡ t
some_span s t e = cc

around_filled : (size base : ℕ) (s : Span6) → Some (span_around size base) ≡ Some s → s.first ≤ s.last
around_filled size base s e = subst (λ (t : Span6). t.first ≤ t.last) (some_span (span_around size base) s e) (omega arith)

v4_at_filled : (bits : ℕ) (base : Address) (s : Span6) → v4_span_at bits base ≡ Some s → s.first ≤ s.last
v4_at_filled bits (V4 n) s e = around_filled (2 ^ (32 - bits)) n s e
v4_at_filled bits (V6 n) s e = absurd (none-some s e)

v6_at_filled : (bits : ℕ) (base : Address) (s : Span6) → v6_span_at bits base ≡ Some s → s.first ≤ s.last
v6_at_filled bits (V4 n) s e = absurd (none-some s e)
v6_at_filled bits (V6 n) s e = around_filled (2 ^ (128 - bits)) n s e

pub v4_filled : (ranges : List Cidr) → All (λ (s : Span6). s.first ≤ s.last) (filter_map v4_span_of ranges)
unfolding v4_span_of Filled
v4_filled ranges = all_filled v4_span_of (λ range. v4_at_filled range.bits range.base) ranges

pub v6_filled : (ranges : List Cidr) → All (λ (s : Span6). s.first ≤ s.last) (filter_map v6_span_of ranges)
unfolding v6_span_of Filled
v6_filled ranges = all_filled v6_span_of (λ range. v6_at_filled range.bits range.base) ranges

-- spans with numbers of 32 bits are apart as those with the same numbers are
pub narrow_apart : (spans : List Span4) → AreApart6 (map wide spans) → AreApart4 spans
narrow_apart spans apart =
    let same : (k : ℕ) (d : Span4) → get_or (map wide spans) k (wide d) ≡ wide (get_or spans k d) = λ k d. get_or-map wide spans k d in (
      λ k d h. rw (same k d) at (apart.0 k (wide d) (rw length-map h)),
      λ k d h. rw (same k d, same (k + 1) d) at (apart.1 k (wide d) (rw length-map h)),
    )

-- merged spans whose last numbers have 32 bits have no longer numbers
pub narrow_fits : (given spans : List Span6) → given ≡ spans → AreApart6 spans → All (λ (s : Span6). s.last < 2 ^ 32) spans → All (λ (s : Span6). (s.first < 2 ^ 32) × (s.last < 2 ^ 32)) given
narrow_fits given spans same apart below =
    rw same λ k d h.
    let order = apart.0 k d h in
    let most = below k d h in
    (omega arith, most)

pub v4_answer : (cover : IpCover) (address : Address) (n : ℕ) (result : Bool) → address ≡ V4 n → result ≡ list_any (is_in4 n) cover.v4.items → IsTrue result ↔ IsCovered cover address
v4_answer cover address n result is e = rw (is, e) (let both = v4_covered n cover.v4.items in (λ h. both.1 h, λ h. both.0 h))

pub v6_answer : (cover : IpCover) (address : Address) (n : ℕ) (result : Bool) → address ≡ V6 n → result ≡ list_any (is_in6 n) cover.v6.items → IsTrue result ↔ IsCovered cover address
v6_answer cover address n result is e = rw (is, e) (let both = v6_covered n cover.v6.items in (λ h. both.1 h, λ h. both.0 h))
