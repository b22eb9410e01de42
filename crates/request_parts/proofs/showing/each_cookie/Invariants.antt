use Rattle.std.proofs.Common.{◌≡◌, ◌++◌, drop}
use Rattle.std.specs.List.{flat_map}
use Rattle.request_parts.specs.PieceViews.{texts}
use Rattle.waf_model.specs.Shown.{of_cookie}
use Rattle.request_parts.proofs.showing.each_cookie.Given as goal

-- those so far, with those of the cookies that are left, are all
abbrev pub invariant-loop-cookie : goal.invariant-loop-cookie
invariant-loop-cookie l = l.parts ++ flat_map (of_cookie l.filter l.part) (texts (drop l.cookie-index l.cookies)) ≡ flat_map (of_cookie l.filter l.part) (texts l.cookies)
