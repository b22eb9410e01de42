-- Texts that are written piece by piece.
use Rattle.std.proofs.Common.{◌≡◌, ℕ, List, ◌++◌, ap, ◌∙◌, append_assoc}

-- a piece more
pub pushed : (old before after pieces piece : List ℕ) → before ≡ old ++ pieces → after ≡ before ++ piece → after ≡ old ++ (pieces ++ piece)
pushed old before after pieces piece first second = second ∙ ap (λ (t : List ℕ). t ++ piece) first ∙ append_assoc old pieces piece
