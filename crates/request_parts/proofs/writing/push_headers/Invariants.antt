use Rattle.std.proofs.Common.{◌≡◌, ◌++◌, take, map}
use Rattle.waf_model.specs.JsonText.{with_commas}
use Rattle.waf_model.specs.RequestText.{header_text}
use Rattle.request_parts.proofs.writing.push_headers.Given as goal

-- the headers so far are written
abbrev pub invariant-loop-place : goal.invariant-loop-place
invariant-loop-place l = l.text ≡ l.fn.text ++ with_commas (map header_text (take l.place l.headers))
