use Rattle.std.proofs.Common.{◌≡◌, ◌+◌, ◌≤◌, drop, false}
use Rattle.request_parts.specs.CookieTally.{tally}
use Rattle.request_parts.proofs.oversize.tally.Given as goal

-- those so far, with those of the bytes that are left, are all
abbrev pub invariant-loop-byte : goal.invariant-loop-byte
invariant-loop-byte l =
    (l.cookies ≤ l.byte-index) × (l.bytes ≤ l.byte-index)
    × (l.cookies + (tally l.within (drop l.byte-index l.value)).0 ≡ (tally false l.value).0)
    × (l.bytes + (tally l.within (drop l.byte-index l.value)).1 ≡ (tally false l.value).1)
