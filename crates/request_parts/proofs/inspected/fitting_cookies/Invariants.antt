use Rattle.std.proofs.Common.{◌≡◌, ◌++◌, ◌-◌, ◌≤◌, drop, take}
use Rattle.request_parts.specs.Fitting.{fitting}
use Rattle.request_parts.specs.PieceViews.{texts}
use Rattle.waf_model.specs.Shown.{cookie_size}
use Rattle.request_parts.proofs.inspected.fitting_cookies.Given as goal

-- the cookies so far, with those that fit of the rest, are all that fit
abbrev pub invariant-loop-place : goal.invariant-loop-place
invariant-loop-place l =
    (l.place ≤ 200) × (texts (take l.place l.cookies) ++ fitting cookie_size (200 - l.place) l.room (texts (drop l.place l.cookies)) ≡ fitting cookie_size 200 8192 (texts l.cookies))
