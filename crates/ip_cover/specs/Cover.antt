-- Which addresses a cover has (this project's own).
use Rattle.std.specs.Prelude.{◌≤◌, Any}
use Rattle.waf_model.specs.declared.address.Address.{Address}
use Rattle.waf_model.specs.declared.address.Address.TheVariants.{V4, V6}
use Rattle.ip_cover.specs.declared.cover.IpCover.{IpCover}
use Rattle.ip_cover.specs.declared.span.Span4.{Span4}
use Rattle.ip_cover.specs.declared.span.Span6.{Span6}

-- some span of the address's version has it
abbrev pub IsCovered : IpCover → Address → Type 0
IsCovered cover (V4 n) = Any (λ (s : Span4). (s.first ≤ n) × (n ≤ s.last)) cover.v4.items
IsCovered cover (V6 n) = Any (λ (s : Span6). (s.first ≤ n) × (n ≤ s.last)) cover.v6.items
