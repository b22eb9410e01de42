-- What a function answers on the front of a text that a scan takes.
use Rattle.std.specs.Prelude.{◌≡◌, ℕ, ◌<◌, List, [], ◌∷◌, drop, Option, Some, None, MatchOption}
use Rattle.std.specs.Borrow.{Bor}
use Rattle.waf_model.specs.TransformScan.{Taken}

-- the front that is taken becomes this byte, and this text stands behind it
abbrev pub IsTaken : Option Taken → List ℕ → ℕ → List ℕ → Type 0
IsTaken None text byte behind = ⊥
IsTaken (Some front) text byte behind = (front.image ≡ byte ∷ []) × (0 < front.size) × (behind ≡ drop front.size text)

-- the answer is the byte of the front that is taken and the text behind it, or None where nothing is taken
abbrev pub Splits : Option Taken → List ℕ → Option (ℕ × Bor (List ℕ)) → Type 0
Splits taken text answer = MatchOption answer (taken ≡ None) (λ x. IsTaken taken text x.0 x.1.now)
