-- Comments: where one begins, and where it ends.
use Rattle.std.proofs.Common.{◌≡◌, ℕ, ◌+◌, ◌-◌, ◌<◌, true, false, eqb, List, [], ◌∷◌, ◌++◌, take, drop, length, Some, None, refl, sym, ap, ◌∙◌, arith, drop-drop}
use Rattle.std.specs.Prelude.{codes}
use Rattle.std.specs.List.{starts_with}
use Rattle.waf_model.specs.TransformScan.{scanned}
use Rattle.waf_model.specs.TransformComments.{comment_rest, comment_at, comments_replaced}
use Rattle.std.proofs.lemmas.List.{take_rest}
use Rattle.text_transform.proofs.Filling.{wrote}
use Rattle.text_transform.proofs.Scanning.{scan_stays, scan_takes}

-- a comment goes on behind a byte with which no end begins
pub rest_next : (text : List ℕ) (b : ℕ) (rest : List ℕ) → text ≡ b ∷ rest → starts_with eqb text (codes "*/") ≡ false
    → comment_rest text ≡ 1 + comment_rest rest
rest_next text b rest is goes = ap comment_rest is ∙ step (ap (λ l. starts_with eqb l (codes "*/")) (sym is) ∙ goes)
  where
    step : starts_with eqb (b ∷ rest) (codes "*/") ≡ false → comment_rest (b ∷ rest) ≡ 1 + comment_rest rest
    step h = rw h refl

-- and ends with its end
pub rest_end : (text : List ℕ) (b : ℕ) (rest : List ℕ) → text ≡ b ∷ rest → starts_with eqb text (codes "*/") ≡ true → comment_rest text ≡ 2
rest_end text b rest is ends = ap comment_rest is ∙ step (ap (λ l. starts_with eqb l (codes "*/")) (sym is) ∙ ends)
  where
    step : starts_with eqb (b ∷ rest) (codes "*/") ≡ true → comment_rest (b ∷ rest) ≡ 2
    step h = rw h refl

none_at : (text : List ℕ) → starts_with eqb text (codes "/*") ≡ false → comment_at text ≡ None
none_at text h = rw h refl

some_at : (text : List ℕ) → starts_with eqb text (codes "/*") ≡ true
    → comment_at text ≡ Some (record { image = codes " "; size = 2 + comment_rest (drop 2 text) })
some_at text h = rw h refl

-- a byte of no comment stays
pub plain_step : (text : List ℕ) (b : ℕ) (rest : List ℕ) → text ≡ b ∷ rest → starts_with eqb text (codes "/*") ≡ false
    → comments_replaced text ≡ b ∷ comments_replaced rest
unfolding comments_replaced
plain_step text b rest is none = scan_stays comment_at text b rest is (none_at text none)

-- a comment becomes a space
pub comment_step : (text : List ℕ) (b : ℕ) (rest behind : List ℕ) → text ≡ b ∷ rest → starts_with eqb text (codes "/*") ≡ true
    → behind ≡ drop (comment_rest (drop 2 text)) (drop 2 text) → comments_replaced text ≡ 32 ∷ comments_replaced behind
unfolding comments_replaced
comment_step text b rest behind is some so =
    let size : 0 < 2 + comment_rest (drop 2 text) = omega arith in
    scan_takes comment_at text b rest (record { image = codes " "; size = 2 + comment_rest (drop 2 text) }) behind is
    (some_at text some) size (so ∙ drop-drop (comment_rest (drop 2 text)) 2 text)

-- the space of a comment is written
pub comment_written : (done whole text : List ℕ) (b : ℕ) (rest behind : List ℕ) (k : ℕ) → done ++ comments_replaced text ≡ whole → text ≡ b ∷ rest
    → starts_with eqb text (codes "/*") ≡ true → behind ≡ drop 2 text → k ≡ comment_rest behind
    → (done ++ 32 ∷ []) ++ comments_replaced (take (length behind - k) (drop k behind)) ≡ whole
comment_written done whole text b rest behind k so is some two count =
    wrote done 32 (comments_replaced text) (comments_replaced (take (length behind - k) (drop k behind))) whole so
    (comment_step text b rest (take (length behind - k) (drop k behind)) is some
    (take_rest behind k ∙ ap (λ n. drop n behind) count ∙ ap (λ l. drop (comment_rest l) l) two))

pub nothing : comments_replaced [] ≡ []
unfolding comments_replaced scanned
nothing = refl
