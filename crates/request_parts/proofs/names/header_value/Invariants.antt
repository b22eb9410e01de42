use Rattle.std.proofs.Common.{◌≡◌, drop}
use Rattle.std.specs.Prelude.{find}
use Rattle.std.specs.Str.{str_eq_ignore_ascii_case}
use Rattle.request_parts.proofs.names.header_value.Given as goal

-- it is among the headers that are left
abbrev pub invariant-loop-header : goal.invariant-loop-header
invariant-loop-header l = find (λ header. str_eq_ignore_ascii_case header.name l.name) (drop l.header-index l.request.headers) ≡ find (λ header. str_eq_ignore_ascii_case header.name l.name) l.request.headers
