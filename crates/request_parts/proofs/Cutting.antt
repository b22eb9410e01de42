-- Texts that are cut, piece by piece.
use Rattle.std.proofs.Common.{◌≡◌, ℕ, List, [], ◌∷◌, cond, refl, sym, ap, ◌∙◌}
use Rattle.std.specs.Prelude.{◌==◌}
use Rattle.std.specs.List.{slice_split, onto_first}
use Rattle.waf_model.specs.Pieces.{cut, begin_with}

begin_is : (b : ℕ) (pieces : List (List ℕ)) → begin_with b pieces ≡ onto_first b pieces
begin_is b [] = refl
begin_is b (piece ∷ pieces) = refl

-- the pieces are what the standard library cuts
pub cut_is : (byte : ℕ) (text : List ℕ) → slice_split (λ b. b == byte) text ≡ cut byte text
cut_is byte [] = refl
cut_is byte (b ∷ bytes) =
    ap (λ l. cond (b == byte) ([] ∷ l) (onto_first b l)) (cut_is byte bytes)
    ∙ ap (cond (b == byte) ([] ∷ cut byte bytes)) (sym (begin_is b (cut byte bytes)))
