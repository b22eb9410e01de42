-- The set of a class has exactly its bytes.
use Rattle.std.proofs.Common.{◌≡◌, ℕ, zero, suc, ◌+◌, ◌-◌, ◌*◌, ◌/◌, ◌<◌, ◌≤◌, List, Bool, true, false, nat_lt, ◌==◌, cond, refl, ap, ◌∙◌, arith}
use Rattle.std.specs.Int.{bit_at}
use Rattle.std.proofs.lemmas.Bool.{ltb-true, ltb-false}
use Rattle.std.proofs.lemmas.Nat.Bits.{bit_at-suc, bit_at_lowest, shr_and_one}
use Rattle.waf_model.specs.Pattern.{has_bit, has_byte}
use Rattle.waf_model.specs.PatternClasses.{Span, class_has, bits, set_of}

one_or_none : (b : Bool) → (cond b 1 0 == 1) ≡ b
one_or_none true = refl
one_or_none false = refl

halves : (b : Bool) (n : ℕ) → (cond b 1 0 + 2 * n) / 2 ≡ n
halves true n = omega arith
halves false n = omega arith

lowest : (b : Bool) (n : ℕ) → bit_at (cond b 1 0 + 2 * n) 0 ≡ cond b 1 0
lowest true n = bit_at_lowest (1 + 2 * n) ∙ omega arith
lowest false n = bit_at_lowest (0 + 2 * n) ∙ omega arith

bits_at : (spans : List Span) (fold negated : Bool) (k count first : ℕ) → k < count →
    bit_at (bits spans fold negated first count) k ≡ cond (class_has spans fold negated (first + k)) 1 0
unfolding bits
bits_at spans fold negated k zero first below = absurd (omega arith)
bits_at spans fold negated zero (suc count) first below =
    let here : first ≡ first + 0 = omega arith in
    lowest (class_has spans fold negated first) (bits spans fold negated (first + 1) count)
    ∙ ap (λ (x : ℕ). cond (class_has spans fold negated x) 1 0) here
bits_at spans fold negated (suc k) (suc count) first below =
    let there : first + 1 + k ≡ first + suc k = omega arith in
    bit_at-suc (cond (class_has spans fold negated first) 1 0 + 2 * bits spans fold negated (first + 1) count) k
    ∙ ap (λ (x : ℕ). bit_at x k) (halves (class_has spans fold negated first) (bits spans fold negated (first + 1) count))
    ∙ bits_at spans fold negated k count (first + 1) (omega arith)
    ∙ ap (λ (x : ℕ). cond (class_has spans fold negated x) 1 0) there

bit_is : (spans : List Span) (fold negated : Bool) (first k : ℕ) → k < 128 →
    has_bit (bits spans fold negated first 128) k ≡ class_has spans fold negated (first + k)
bit_is spans fold negated first k below =
    ap (λ (x : ℕ). x == 1) (shr_and_one (bits spans fold negated first 128) k ∙ bits_at spans fold negated k 128 first below)
    ∙ one_or_none (class_has spans fold negated (first + k))

pub class_bytes : (spans : List Span) (fold negated : Bool) (b : ℕ) → b < 256 →
    has_byte (set_of spans fold negated) b ≡ class_has spans fold negated b
class_bytes spans fold negated b within = by_half (nat_lt b 128) refl
  where
    by_half : (low : Bool) → nat_lt b 128 ≡ low →
        cond low (has_bit (bits spans fold negated 0 128) b) (has_bit (bits spans fold negated 128 128) (b - 128)) ≡ class_has spans fold negated b
    by_half true is =
        let below : b < 128 = ltb-true b 128 is in
        let here : 0 + b ≡ b = omega arith in
        bit_is spans fold negated 0 b below ∙ ap (class_has spans fold negated) here
    by_half false is =
        let above : 128 ≤ b = ltb-false b 128 is in
        let here : 128 + (b - 128) ≡ b = omega arith in
        bit_is spans fold negated 128 (b - 128) (omega arith) ∙ ap (class_has spans fold negated) here
