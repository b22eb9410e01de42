-- The digits that a text begins with, and their number modulo 256.
use Rattle.std.proofs.Common.{◌≡◌, ℕ, suc, ◌+◌, ◌*◌, ◌%◌, ◌<◌, Bool, true, false, List, [], ◌∷◌, drop, length, refl, sym, ap, ◌∙◌, arith}
use Rattle.std.specs.Char.{is_digit, digit_value}
use Rattle.std.specs.List.{fold}
use Rattle.std.proofs.lemmas.Bool.Decides.{Decides-ltb}
use Rattle.std.proofs.lemmas.Nat.{mul-mod_first}
use Rattle.waf_model.specs.TransformEntities.{leading_digits}

-- one digit more
abbrev pub more : ℕ → ℕ → ℕ → ℕ
more base n d = n * base + d

digit_here : (base b : ℕ) (rest : List ℕ) → is_digit b base ≡ true → leading_digits base (b ∷ rest) ≡ digit_value b ∷ leading_digits base rest
digit_here base b rest h = rw h refl

none_here : (base b : ℕ) (rest : List ℕ) → is_digit b base ≡ false → leading_digits base (b ∷ rest) ≡ []
none_here base b rest h = rw h refl

-- a digit begins the text
pub digit_at : (base b : ℕ) (text rest : List ℕ) → text ≡ b ∷ rest → digit_value b < base → leading_digits base text ≡ digit_value b ∷ leading_digits base rest
digit_at base b text rest is below = ap (leading_digits base) is ∙ digit_here base b rest ((Decides-ltb (digit_value b) base).1 below)

-- no digit begins the text
pub none_at : (base b : ℕ) (text rest : List ℕ) → text ≡ b ∷ rest → (digit_value b < base → ⊥) → leading_digits base text ≡ []
none_at base b text rest is above = ap (leading_digits base) is ∙ none_here base b rest (by_test (is_digit b base) refl)
  where
    by_test : (q : Bool) → is_digit b base ≡ q → is_digit b base ≡ false
    by_test true h = absurd (above ((Decides-ltb (digit_value b) base).0 h))
    by_test false h = h

-- a product and a sum have the lowest byte that their lowest bytes give
low_step : (base n m d : ℕ) → n % 256 ≡ m % 256 → (n * base + d) % 256 ≡ (m * base + d) % 256
low_step base n m d same =
    let products : (n * base) % 256 ≡ (m * base) % 256 = sym (mul-mod_first n base 256) ∙ ap (λ k. (k * base) % 256) same ∙ mul-mod_first m base 256 in
    omega (arith, products)

pub fold_low : (base : ℕ) (digits : List ℕ) (n m : ℕ) → n % 256 ≡ m % 256 → fold (more base) n digits % 256 ≡ fold (more base) m digits % 256
fold_low base [] n m same = same
fold_low base (d ∷ digits) n m same = fold_low base digits (n * base + d) (m * base + d) (low_step base n m d same)

-- the number goes on with the lowest byte of what it is with the digit
pub number_next : (base number digit b : ℕ) (text rest : List ℕ) → text ≡ b ∷ rest → digit_value b < base → digit ≡ digit_value b
    → fold (more base) ((number * base + digit) % 256) (leading_digits base rest) % 256 ≡ fold (more base) number (leading_digits base text) % 256
number_next base number digit b text rest is below value =
    let low : (number * base + digit) % 256 % 256 ≡ (number * base + digit_value b) % 256 = rw value (omega arith) in
    fold_low base (leading_digits base rest) ((number * base + digit) % 256) (number * base + digit_value b) low
    ∙ ap (λ l. fold (more base) number l % 256) (sym (digit_at base b text rest is below))

-- behind the digits of the rest is behind those of the text
pub behind_next : (base b : ℕ) (text rest : List ℕ) → text ≡ b ∷ rest → digit_value b < base
    → drop (length (leading_digits base rest)) rest ≡ drop (length (leading_digits base text)) text
behind_next base b text rest is below =
    ap (drop (suc (length (leading_digits base rest)))) (sym is) ∙ ap (λ l. drop (length l) text) (sym (digit_at base b text rest is below))
