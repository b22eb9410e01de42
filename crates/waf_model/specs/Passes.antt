-- The test of one text (API fields `PositionalConstraint` and `ComparisonOperator`; AWS WAF Developer Guide, "Regex match
-- rule statement").
use Rattle.std.specs.Prelude.{◌≡◌, ◌≢◌, ℕ, ◌<◌, ◌≤◌, List, [], ◌∷◌, ◌++◌, length, Any, Bool, ◌||◌, ◌&&◌, ◌==◌, nat_le, IsTrue}
use Rattle.waf_model.specs.Pattern.{Found}
use Rattle.waf_model.specs.declared.matching.Compare.{Compare}
use Rattle.waf_model.specs.declared.matching.Compare.TheVariants as compares
use Rattle.waf_model.specs.declared.matching.Position.{Position}
use Rattle.waf_model.specs.declared.matching.Position.TheVariants as positions
use Rattle.waf_model.specs.declared.pattern.Pattern.{Pattern}

-- A-Z, a-z, 0-9 or `_`
abbrev pub is_word_byte : ℕ → Bool
is_word_byte b = (nat_le 65 b && nat_le b 90) || (nat_le 97 b && nat_le b 122) || (nat_le 48 b && nat_le b 57) || b == 95

-- the text is empty or ends in a byte outside of words
abbrev pub EndsOutside : List ℕ → Type 0
EndsOutside a = (front : List ℕ) → (b : ℕ) → a ≡ front ++ b ∷ [] → IsTrue (is_word_byte b) → ⊥

-- the text is empty or begins with a byte outside of words
abbrev pub BeginsOutside : List ℕ → Type 0
BeginsOutside a = (b : ℕ) → (rest : List ℕ) → a ≡ b ∷ rest → IsTrue (is_word_byte b) → ⊥

-- the search string stands in the text so
abbrev pub Stands : Position → List ℕ → List ℕ → Type 0
Stands positions.Exactly search text = text ≡ search
Stands positions.Starts search text = (b : List ℕ) × (text ≡ search ++ b)
Stands positions.Ends search text = (a : List ℕ) × (text ≡ a ++ search)
Stands positions.Contains search text = (a : List ℕ) × (b : List ℕ) × (text ≡ a ++ search ++ b)
Stands positions.Word search text = (a : List ℕ) × (b : List ℕ) × (text ≡ a ++ search ++ b) × EndsOutside a × BeginsOutside b

-- a length, in bytes, compared with a size
abbrev pub Compares : Compare → ℕ → ℕ → Type 0
Compares compares.Eq bytes size = bytes ≡ size
Compares compares.Ne bytes size = bytes ≢ size
Compares compares.Le bytes size = bytes ≤ size
Compares compares.Lt bytes size = bytes < size
Compares compares.Ge bytes size = size ≤ bytes
Compares compares.Gt bytes size = size < bytes

-- what is asked of a text
pub data Test : Type 0 where
  search : (position : Position) (text : List ℕ) → Test
  size : (op : Compare) (bytes : ℕ) → Test
  patterns : (all : List Pattern) → Test

-- the text passes the test: the search string stands in it, its length compares so, or some pattern is found in it
abbrev pub Passes : Test → List ℕ → Type 0
Passes (search position text) w = Stands position text w
Passes (size op bytes) w = Compares op (length w) bytes
Passes (patterns all) w = Any (λ pattern. Found pattern w) all
