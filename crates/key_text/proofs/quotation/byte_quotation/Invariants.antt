use Rattle.std.proofs.Common.{◌≡◌, [], ◌∷◌, ◌++◌, take}
use Rattle.std.specs.List.{flat_map}
use Rattle.json.specs.Print.{escape_byte}
use Rattle.key_text.proofs.quotation.byte_quotation.Given as goal

-- the bytes so far are written
abbrev pub invariant-loop-byte : goal.invariant-loop-byte
invariant-loop-byte l = l.all ≡ (34 ∷ []) ++ flat_map escape_byte (take l.byte-index l.byte-items)
