use Rattle.std.proofs.Common.{◌≡◌, ◌++◌, ◌-◌, ◌≤◌, drop, take}
use Rattle.request_parts.specs.Fitting.{fitting}
use Rattle.waf_model.specs.Shown.{header_size}
use Rattle.request_parts.proofs.inspected.fitting_headers.Given as goal

-- the headers so far, with those that fit of the rest, are all that fit
abbrev pub invariant-loop-place : goal.invariant-loop-place
invariant-loop-place l =
    (l.place ≤ 200) × (take l.place l.headers ++ fitting header_size (200 - l.place) l.room (drop l.place l.headers) ≡ fitting header_size 200 8192 l.headers)
