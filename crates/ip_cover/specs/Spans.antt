-- Spans of addresses (this project's own).
use Rattle.std.specs.Prelude.{ℕ, ◌+◌, ◌-◌, ◌<◌, ◌≤◌, ◌%◌, ◌^◌, Bool, ◌&&◌, nat_le, nat_lt, if◌then◌else◌, List, length, All, Option, Some, None}
use Rattle.std.specs.declared.cmp.Ordering.{Ordering}
use Rattle.std.specs.declared.cmp.Ordering.TheVariants.{Less, Equal, Greater}
use Rattle.std.specs.List.{AllAdjacentBelow}
use Rattle.waf_model.specs.declared.address.Address.{Address}
use Rattle.waf_model.specs.declared.address.Address.TheVariants.{V4, V6}
use Rattle.waf_model.specs.declared.address.Cidr.{Cidr}
use Rattle.ip_cover.specs.declared.span.Span4.{Span4}
use Rattle.ip_cover.specs.declared.span.Span6.{Span6}

-- the number is from the first to the last
abbrev pub is_from_to : ℕ → ℕ → ℕ → Bool
is_from_to first last n = nat_le first n && nat_le n last

abbrev pub is_in4 : ℕ → Span4 → Bool
is_in4 n span = is_from_to span.first span.last n

abbrev pub is_in6 : ℕ → Span6 → Bool
is_in6 n span = is_from_to span.first span.last n

-- spans, of which these are the first and the last number, ascend, are disjoint and don't touch: each has a number, and
-- between each and the next one number at least is left out
abbrev pub AreApart : {X : Type 0} → (X → ℕ) → (X → ℕ) → List X → Type 0
AreApart first last spans = All (λ s. first s ≤ last s) spans × AllAdjacentBelow (λ s t. last s + 1 < first t) spans (length spans)

abbrev pub AreApart4 : List Span4 → Type 0
AreApart4 spans = AreApart (λ (s : Span4). s.first) (λ (s : Span4). s.last) spans

abbrev pub AreApart6 : List Span6 → Type 0
AreApart6 spans = AreApart (λ (s : Span6). s.first) (λ (s : Span6). s.last) spans

-- as many numbers as the size that begin where the base does, its rest by the size left out
abbrev pub span_around : ℕ → ℕ → Span6
span_around size base = record { first = base - base % size; last = base - base % size + (size - 1) }

-- the addresses of an IPv4 range
abbrev pub v4_span_at : ℕ → Address → Option Span6
v4_span_at bits (V4 n) = Some (span_around (2 ^ (32 - bits)) n)
v4_span_at bits (V6 n) = None

unfoldable pub v4_span_of : Cidr → Option Span6
v4_span_of range = v4_span_at range.bits range.base

-- the addresses of an IPv6 range
abbrev pub v6_span_at : ℕ → Address → Option Span6
v6_span_at bits (V4 n) = None
v6_span_at bits (V6 n) = Some (span_around (2 ^ (128 - bits)) n)

unfoldable pub v6_span_of : Cidr → Option Span6
v6_span_of range = v6_span_at range.bits range.base

-- the same numbers
abbrev pub wide : Span4 → Span6
wide span = record { first = span.first; last = span.last }

-- where the numbers from the first to the last stand to the number
abbrev pub side : ℕ → ℕ → ℕ → Ordering
side n first last = if nat_lt last n then Less else (if nat_lt n first then Greater else Equal)
