-- A loop that writes a text byte by byte: what is written and what is still to be written are the whole.
use Rattle.std.proofs.Common.{◌≡◌, ℕ, List, [], ◌∷◌, ◌++◌, append_assoc, append-nil, ap, sym, ◌∙◌}

-- one byte more is written
pub wrote : (done : List ℕ) (x : ℕ) (left rest whole : List ℕ) → done ++ left ≡ whole → left ≡ x ∷ rest → (done ++ x ∷ []) ++ rest ≡ whole
wrote done x left rest whole so first = append_assoc done (x ∷ []) rest ∙ ap (λ l. done ++ l) (sym first) ∙ so

-- nothing is written
pub skipped : (done left rest whole : List ℕ) → done ++ left ≡ whole → left ≡ rest → done ++ rest ≡ whole
skipped done left rest whole so same = ap (λ l. done ++ l) (sym same) ∙ so

-- nothing is left
pub finished : (done left whole : List ℕ) → done ++ left ≡ whole → left ≡ [] → done ≡ whole
finished done left whole so none = sym (append-nil done) ∙ ap (λ l. done ++ l) (sym none) ∙ so

-- some bytes more are written
pub wrote_all : (done front left rest whole : List ℕ) → done ++ left ≡ whole → left ≡ front ++ rest → (done ++ front) ++ rest ≡ whole
wrote_all done front left rest whole so first = append_assoc done front rest ∙ ap (λ l. done ++ l) (sym first) ∙ so
