-- Where a regular expression of the subset matches (this project's own; AWS WAF Developer Guide, "Regex match rule
-- statement").
use Rattle.std.specs.Prelude.{◌≡◌, ℕ, zero, suc, ◌+◌, ◌-◌, ◌/◌, ◌^◌, ◌≤◌, ◌⊎◌, List, [], ◌∷◌, length, slice_get, Option, Some, IfSome, Bool, IsTrue, ◌==◌, nat_lt, if◌then◌else◌, bit_and}
use Rattle.waf_model.specs.declared.pattern.ByteSet.{ByteSet}
use Rattle.waf_model.specs.declared.pattern.Pattern.{Pattern}
use Rattle.waf_model.specs.declared.pattern.Pattern.TheOpen.{Pattern-F}
use Rattle.waf_model.specs.declared.pattern.Pattern.TheFolds.{fold-Pattern}

-- bit k of n is 1
abbrev pub has_bit : ℕ → ℕ → Bool
has_bit n k = bit_and (n / 2 ^ k) 1 == 1

-- the byte is in the set
abbrev pub has_byte : ByteSet → ℕ → Bool
has_byte set b = if nat_lt b 128 then has_bit set.low b else has_bit set.high (b - 128)

-- a pattern whose lists of parts are pairs
pub data Expression : Type 0 where
  nothing : Expression
  empty : Expression
  one_of : (set : ByteSet) → Expression
  start : Expression
  end : Expression
  final : Expression
  both : (first second : Expression) → Expression
  either : (first second : Expression) → Expression
  repeat : (inner : Expression) (least : ℕ) (most : Option ℕ) → Expression

-- one after another
abbrev pub all_of : List Expression → Expression
all_of [] = empty
all_of (e ∷ es) = both e (all_of es)

-- one of these
abbrev pub any_of : List Expression → Expression
any_of [] = nothing
any_of (e ∷ es) = either e (any_of es)

-- one node of a pattern, with the expression of each part in its place
abbrev pub expression_step : Pattern-F Expression → Expression
expression_step Pattern-F.Empty = empty
expression_step (Pattern-F.Set set) = one_of set
expression_step Pattern-F.Start = start
expression_step Pattern-F.End = end
expression_step Pattern-F.Final = final
expression_step (Pattern-F.Seq parts) = all_of parts
expression_step (Pattern-F.Alt parts) = any_of parts
expression_step (Pattern-F.Repeat inner least most) = repeat inner least most

-- the expression of a pattern
abbrev pub expression : Pattern → Expression
expression = fold-Pattern Expression expression_step

-- n matches follow one another from i to j
abbrev pub Times : (ℕ → ℕ → Type 0) → ℕ → ℕ → ℕ → Type 0
Times R zero i j = j ≡ i
Times R (suc n) i j = (m : ℕ) × R i m × Times R n m j

-- The expression matches w from the place i to the place j: `start` at the start, `end` at the very end, `final` at the
-- end and before one final byte 10; a repetition where between `least` and `most` matches follow one another.
abbrev pub Matches : List ℕ → Expression → ℕ → ℕ → Type 0
Matches w nothing i j = ⊥
Matches w empty i j = j ≡ i
Matches w (one_of set) i j = (b : ℕ) × (slice_get w i ≡ Some b) × IsTrue (has_byte set b) × (j ≡ i + 1)
Matches w start i j = (i ≡ 0) × (j ≡ i)
Matches w end i j = (i ≡ length w) × (j ≡ i)
Matches w final i j = ((i ≡ length w) ⊎ ((i + 1 ≡ length w) × (slice_get w i ≡ Some 10))) × (j ≡ i)
Matches w (both a b) i j = (m : ℕ) × Matches w a i m × Matches w b m j
Matches w (either a b) i j = Matches w a i j ⊎ Matches w b i j
Matches w (repeat a least most) i j =
    (n : ℕ) × (least ≤ n) × IfSome most (λ m. n ≤ m) × Times (Matches w a) n i j

-- the pattern hits w from the place i to the place j
abbrev pub Hit : Pattern → List ℕ → ℕ → ℕ → Type 0
Hit p w i j = (i ≤ j) × (j ≤ length w) × Matches w (expression p) i j

-- the pattern is found in w: it hits it from some place to some place
abbrev pub Found : Pattern → List ℕ → Type 0
Found p w = (i : ℕ) × (j : ℕ) × Hit p w i j
