-- Where a search string stands in a text (API field `PositionalConstraint`).
use Rattle.std.specs.Prelude.{◌≡◌, ℕ, List, ◌++◌, drop, take}
use Rattle.waf_model.specs.Passes.{BeginsOutside, EndsOutside}

-- the text begins with the search string, and what follows begins no word
abbrev pub BeginsWithWord : List ℕ → List ℕ → Type 0
BeginsWithWord search text = (b : List ℕ) × (text ≡ search ++ b) × BeginsOutside b

-- it stands behind so many bytes, and is a word there
abbrev pub IsWordAt : List ℕ → List ℕ → ℕ → Type 0
IsWordAt search text at = EndsOutside (take at text) × BeginsWithWord search (drop at text)
