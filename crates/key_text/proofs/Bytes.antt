-- Bytes within quotation marks.
use Rattle.std.proofs.Common.{◌≡◌, ℕ, ◌-◌, ◌≤◌, List, [], ◌∷◌, ◌++◌, length, take, drop, ap, arith, length-append}
use Rattle.std.proofs.Math.Seq.{take-append_seam}
use Rattle.std.proofs.lemmas.Bool.Decides.{nat_tests}
use Rattle.json.specs.Print.{escape_byte}

-- a byte that is no ASCII character stands as it is
pub escape_byte_outside : (b : ℕ) → 128 ≤ b → escape_byte b ≡ b ∷ []
unfolding escape_byte
escape_byte_outside b h = grind (arith, nat_tests)

-- what stands between the first and the last byte
pub within_quotation : (inner quotation : List ℕ) → quotation ≡ (34 ∷ inner) ++ 34 ∷ [] → take (length quotation - 1 - 1) (drop 1 quotation) ≡ inner
within_quotation inner quotation is =
    let long : length quotation - 1 - 1 ≡ length inner = omega (arith, ap length is, length-append inner (34 ∷ [])) in
    rw (long, is) (take-append_seam inner (34 ∷ []))
