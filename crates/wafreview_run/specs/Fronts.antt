-- A front of a text was taken.
use Rattle.std.specs.Prelude.{ℕ, ◌≡◌, ◌++◌, List, Option}
use Rattle.waf_base.specs.Taken.{Appends}

-- the sink took what stands before the rest of the text, and nothing else
abbrev pub TookBefore : Option (List ℕ) → Option (List ℕ) → List ℕ → List ℕ → Type 0
TookBefore before after text rest = (front : List ℕ) × (text ≡ front ++ rest) × Appends before after front

-- the sink took a front of the text and nothing else
abbrev pub TookFront : Option (List ℕ) → Option (List ℕ) → List ℕ → Type 0
TookFront before after text = (rest : List ℕ) × TookBefore before after text rest
