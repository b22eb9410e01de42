-- Bits of sets of bytes and of sets of places.
use Rattle.std.proofs.Common.{◌≡◌, ℕ, zero, suc, ◌-◌, ◌<◌, Bool, true, false, ◌&&◌, ◌||◌, ◌==◌, nat_lt, if◌then◌else◌, bit_and, bit_or, refl, ap, sym, ◌∙◌, arith, min, max}
use Rattle.std.specs.Int.{bit_at}
use Rattle.std.proofs.lemmas.Nat.Bits.{shr_and_one, bit_at_and, bit_at_or, bit_at-lt}
use Rattle.waf_model.specs.Pattern.{has_bit, has_byte}
use Rattle.waf_model.specs.declared.pattern.ByteSet.{ByteSet}
use Rattle.pattern_match.specs.declared.place.Place.{Place}
use Rattle.pattern_match.specs.declared.place_set.PlaceSet.{PlaceSet}
use Rattle.pattern_match.specs.Places.{has_place, place_number}

-- of two bits the larger is 1 where one is, and the smaller where both are
larger_bit : (x y : ℕ) → x < 2 → y < 2 → (max x y == 1) ≡ ((x == 1) || (y == 1))
larger_bit zero zero h k = refl
larger_bit zero (suc zero) h k = refl
larger_bit (suc zero) zero h k = refl
larger_bit (suc zero) (suc zero) h k = refl
larger_bit zero (suc (suc y)) h k = absurd (omega arith)
larger_bit (suc zero) (suc (suc y)) h k = absurd (omega arith)
larger_bit (suc (suc x)) y h k = absurd (omega arith)

smaller_bit : (x y : ℕ) → x < 2 → y < 2 → (min x y == 1) ≡ ((x == 1) && (y == 1))
smaller_bit zero zero h k = refl
smaller_bit zero (suc zero) h k = refl
smaller_bit (suc zero) zero h k = refl
smaller_bit (suc zero) (suc zero) h k = refl
smaller_bit zero (suc (suc y)) h k = absurd (omega arith)
smaller_bit (suc zero) (suc (suc y)) h k = absurd (omega arith)
smaller_bit (suc (suc x)) y h k = absurd (omega arith)

-- the test of a bit
bit_is : (n k : ℕ) → has_bit n k ≡ (bit_at n k == 1)
bit_is n k = ap (λ (x : ℕ). x == 1) (shr_and_one n k)

-- bits of `a | b` and of `a & b`
pub has_bit_or : (a b k : ℕ) → has_bit (bit_or a b) k ≡ (has_bit a k || has_bit b k)
has_bit_or a b k =
    bit_is (bit_or a b) k ∙ ap (λ (x : ℕ). x == 1) (bit_at_or a b k)
    ∙ larger_bit (bit_at a k) (bit_at b k) (bit_at-lt a k) (bit_at-lt b k)
    ∙ ap (λ (x : Bool). x || (bit_at b k == 1)) (sym (bit_is a k)) ∙ ap (λ (x : Bool). has_bit a k || x) (sym (bit_is b k))

pub has_bit_and : (a b k : ℕ) → has_bit (bit_and a b) k ≡ (has_bit a k && has_bit b k)
has_bit_and a b k =
    bit_is (bit_and a b) k ∙ ap (λ (x : ℕ). x == 1) (bit_at_and a b k)
    ∙ smaller_bit (bit_at a k) (bit_at b k) (bit_at-lt a k) (bit_at-lt b k)
    ∙ ap (λ (x : Bool). x && (bit_at b k == 1)) (sym (bit_is a k)) ∙ ap (λ (x : Bool). has_bit a k && x) (sym (bit_is b k))

-- bytes in one of two sets
pub has_byte_or : (s t : ByteSet) (b : ℕ) →
    has_byte (record { low = bit_or s.low t.low; high = bit_or s.high t.high }) b ≡ (has_byte s b || has_byte t b)
has_byte_or s t b = elim (nat_lt b 128) as (λ (x : Bool).
    (if x then has_bit (bit_or s.low t.low) b else has_bit (bit_or s.high t.high) (b - 128))
    ≡ ((if x then has_bit s.low b else has_bit s.high (b - 128)) || (if x then has_bit t.low b else has_bit t.high (b - 128)))) [
      | true ↦ has_bit_or s.low t.low b
      | false ↦ has_bit_or s.high t.high (b - 128)
    ]

-- places in both sets, and in one of them
pub place_in_both : (s t : PlaceSet) (place : Place) → has_place (record { mask = bit_and s.mask t.mask }) place ≡ (has_place s place && has_place t place)
place_in_both s t place = has_bit_and s.mask t.mask (place_number place)

pub place_in_either : (s t : PlaceSet) (place : Place) → has_place (record { mask = bit_or s.mask t.mask }) place ≡ (has_place s place || has_place t place)
place_in_either s t place = has_bit_or s.mask t.mask (place_number place)
