-- A text that is cut at its first newline byte.
use Rattle.std.proofs.Common.{◌≡◌, ℕ, ◌+◌, ◌<◌, ◌≤◌, List, [], ◌∷◌, length, take, drop, sym, ap, ◌∙◌, arith}
use Rattle.std.proofs.lemmas.List.Splits.{length-slice_split, slice_split_first, slice_split_none}
use Rattle.std.proofs.lemmas.List.Sums.{count_by-le-length, fails_before_first}
use Rattle.std.specs.List.{position_or_len}
use Rattle.std.specs.Prelude.{◌==◌}
use Rattle.request_parts.proofs.Cutting.{cut_is}
use Rattle.waf_model.specs.Pieces.{cut}

-- a text without a newline byte is one line
pub cut_whole : (text : List ℕ) → position_or_len (λ b. b == 10) text ≡ length text → cut 10 text ≡ text ∷ []
cut_whole text none =
    sym (cut_is 10 text) ∙ slice_split_none (λ b. b == 10) text (λ k d within. fails_before_first (λ b. b == 10) text k d (omega (arith, none)))

-- the first line ends at the first newline byte, and the others stand behind it
pub cut_first : (text : List ℕ) (n : ℕ) → n ≡ position_or_len (λ b. b == 10) text → n < length text → cut 10 text ≡ take n text ∷ cut 10 (drop (n + 1) text)
cut_first text n is within =
    let at = position_or_len (λ b. b == 10) text in
    let here : cut 10 text ≡ take at text ∷ cut 10 (drop (at + 1) text) =
    sym (cut_is 10 text) ∙ slice_split_first (λ b. b == 10) text 0 (omega arith) ∙ ap (λ l. take at text ∷ l) (cut_is 10 (drop (at + 1) text)) in
    here ∙ ap (λ m. take m text ∷ cut 10 (drop (m + 1) text)) (sym is)

-- there is at most one line more than bytes
pub cut_length : (text : List ℕ) → length (cut 10 text) ≤ length text + 1
cut_length text =
    let same = ap length (cut_is 10 text) in
    omega (arith, length-slice_split (λ b. b == 10) text, count_by-le-length (λ b. b == 10) text)
