-- What texts of bytes lead to, from a first place on, whatever a place is (this project's own).
use Rattle.std.specs.Prelude.{ℕ, ◌≡◌, List, [], ◌∷◌}
use Rattle.byte_automata.specs.Texts.{IsText}

-- the place that a text leads to from a place on
abbrev pub led : {P : Type 0} → (P → ℕ → P) → P → List ℕ → P
led after place [] = place
led after place (byte ∷ text) = led after (after place byte) text

-- some text of bytes leads to the place
abbrev pub IsReached : {P : Type 0} → P → (P → ℕ → P) → P → Type 0
IsReached start after place = (text : List ℕ) × IsText text × (led after start text ≡ place)

-- both texts lead to one place
abbrev pub LedAlike : {P : Type 0} → P → (P → ℕ → P) → List ℕ → List ℕ → Type 0
LedAlike start after text other = led after start text ≡ led after start other
