use Rattle.std.proofs.Common.{◌≡◌, map, drop}
use Rattle.std.specs.List.{fold}
use Rattle.request_parts.specs.JoinedHeaders.{joined, lowered, with_line}
use Rattle.request_parts.proofs.joined.joined.Given as goal

-- the headers so far, with the lines that are left, are those of all lines
abbrev pub invariant-loop-line : goal.invariant-loop-line
invariant-loop-line l =
    (map (λ name. name.items) l.names.keys ≡ map (λ header. header.name) l.headers.items)
    × (fold with_line l.headers.items (map lowered (drop l.line-index l.lines)) ≡ joined l.lines)
