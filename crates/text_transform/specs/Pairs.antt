-- What a function answers on the pair of hexadecimal digits at the front of a text.
use Rattle.std.specs.Prelude.{◌≡◌, ℕ, ◌<◌, List, [], ◌∷◌, length, drop, ◌==◌, Option, MatchOption}
use Rattle.std.specs.Borrow.{Bor}
use Rattle.waf_model.specs.TransformHex.{leading_pairs, is_pairs}

-- the text begins with no pair
pub record BeginsNoPair (text : List ℕ) : Type 0 where
  pub bytes : leading_pairs text ≡ []
  pub pairs : is_pairs text ≡ (length text == 0)

-- the text begins with a pair that stands for the byte, and this text stands behind it
pub record BeginsPair (text : List ℕ) (byte : ℕ) (behind : List ℕ) : Type 0 where
  pub bytes : leading_pairs text ≡ byte ∷ leading_pairs behind
  pub pairs : is_pairs text ≡ is_pairs behind
  pub rest : behind ≡ drop 2 text
  pub shorter : length behind < length text

-- the answer is the byte of the pair and the text behind it, or None where the text begins with no pair
abbrev pub SplitsPair : List ℕ → Option (ℕ × Bor (List ℕ)) → Type 0
SplitsPair text answer = MatchOption answer (BeginsNoPair text) (λ x. BeginsPair text x.0 x.1.now)
