-- The spans of one range more.
use Rattle.std.proofs.Common.{◌≡◌, ℕ, ◌+◌, ◌<◌, ◌^◌, List, [], ◌∷◌, ◌++◌, length, get_or, take, Option, Some, None, refl, sym, ap, ◌∙◌}
use Rattle.std.proofs.lemmas.List.{take_more}
use Rattle.std.proofs.lemmas.List.Elements.{All-nil, All-cons, All-append, filter_map-append}
use Rattle.std.specs.List.{filter_map, cons_option}
use Rattle.std.specs.Option.{IfSome, option_to_list}
use Rattle.std.specs.Prelude.{All}
use Rattle.waf_model.specs.declared.address.Cidr.{Cidr}
use Rattle.ip_cover.specs.Spans.{v4_span_of}
use Rattle.ip_cover.specs.declared.span.Span6.{Span6}

-- the numbers of the spans have 32 bits
abbrev IsNarrow : List Span6 → Type 0
IsNarrow spans = All (λ (s : Span6). s.last < 2 ^ 32) spans

single : (o : Option Span6) → cons_option o [] ≡ option_to_list o
single None = refl
single (Some span) = refl

narrow_option : (o : Option Span6) → IfSome o (λ (s : Span6). s.last < 2 ^ 32) → IsNarrow (option_to_list o)
narrow_option None narrow = All-nil (λ (s : Span6). s.last < 2 ^ 32)
narrow_option (Some span) narrow = All-cons (λ (s : Span6). s.last < 2 ^ 32) span [] narrow (All-nil (λ (s : Span6). s.last < 2 ^ 32))

pub spans_more : (ranges : List Cidr) (i : ℕ) (range : Cidr) (o : Option Span6) (before after : List Span6) → i < length ranges → range ≡ get_or ranges i range
    → o ≡ v4_span_of range → before ≡ filter_map v4_span_of (take i ranges) → after ≡ before ++ option_to_list o
    → IfSome o (λ (s : Span6). s.last < 2 ^ 32) → IsNarrow before → (after ≡ filter_map v4_span_of (take (i + 1) ranges)) × IsNarrow after
spans_more ranges i range o before after within item is so_far pushed narrow all =
    let more : take (i + 1) ranges ≡ take i ranges ++ range ∷ [] = take_more ranges i range within ∙ ap (λ (r : Cidr). take i ranges ++ r ∷ []) (sym item) in
    let whole : filter_map v4_span_of (take (i + 1) ranges) ≡ filter_map v4_span_of (take i ranges) ++ cons_option (v4_span_of range) [] =
    ap (λ (x : List Cidr). filter_map v4_span_of x) more ∙ filter_map-append v4_span_of (take i ranges) (range ∷ []) in
    let option_is : option_to_list o ≡ cons_option (v4_span_of range) [] = sym (single o) ∙ ap (λ (x : Option Span6). cons_option x []) is in (
      pushed ∙ ap (λ (x : List Span6). x ++ option_to_list o) so_far ∙ ap (λ (x : List Span6). filter_map v4_span_of (take i ranges) ++ x) option_is ∙ sym whole,
      rw pushed (All-append (λ (s : Span6). s.last < 2 ^ 32) before (option_to_list o) all (narrow_option o narrow)),
    )
