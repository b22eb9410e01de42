use Rattle.std.proofs.Common.{◌∙◌, rules}
use Rattle.std.proofs.lemmas.Fn.{always_returns_same}
use Rattle.ip_cover.specs.Spans.{side}
use Rattle.ip_cover.specs.declared.span.Span6.{Span6}
use Rattle.ip_cover.proofs.Searching.{found}
use Rattle.ip_cover.proofs.look_up.v6_has.Goals as goal

pub returns : goal.returns
returns c =
    c.is_ok.ensures.value
    ∙ found (λ (s : Span6). s.first) (λ (s : Span6). s.last) c.args.number c.args.spans.now c.requires c.binary_search_by.result c.binary_search_by.ensures.bound
    (c.binary_search_by.ensures.position (λ (s : Span6). side c.args.number s.first s.last) (always_returns_same _ _ _ (λ a r q k. search rules)))
