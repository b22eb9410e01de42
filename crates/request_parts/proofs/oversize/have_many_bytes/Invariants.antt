use Rattle.std.proofs.Common.{◌≡◌, ◌+◌, ◌≤◌, drop}
use Rattle.std.specs.List.{fold, sum_by}
use Rattle.waf_model.specs.Shown.{header_size}
use Rattle.request_parts.proofs.oversize.have_many_bytes.Given as goal

-- the bytes so far, with those of the headers that are left, are all
abbrev pub invariant-loop-header : goal.invariant-loop-header
invariant-loop-header l = (l.bytes ≤ 8192) × (fold (λ total header. total + header_size header) l.bytes (drop l.header-index l.headers) ≡ sum_by header_size l.headers)
