-- Texts that are written piece by piece.
use Rattle.std.proofs.Common.{◌≡◌, ℕ, List, [], ◌∷◌, ◌++◌, append_assoc}
use Rattle.std.specs.List.{join_with_byte}

-- eight groups with colons between
pub eight_groups : (old a b c d e f g h : List ℕ)
    → old ++ a ++ 58 ∷ [] ++ b ++ 58 ∷ [] ++ c ++ 58 ∷ [] ++ d ++ 58 ∷ [] ++ e ++ 58 ∷ [] ++ f ++ 58 ∷ [] ++ g ++ 58 ∷ [] ++ h
    ≡ old ++ join_with_byte 58 (a ∷ b ∷ c ∷ d ∷ e ∷ f ∷ g ∷ h ∷ [])
eight_groups old a b c d e f g h = simp append_assoc
