-- The steps of a scan.
use Rattle.std.proofs.Common.{◌≡◌, ℕ, zero, suc, ◌-◌, ◌<◌, List, [], ◌∷◌, ◌++◌, drop, Option, Some, None, refl, sym, ap, ◌∙◌, arith}
use Rattle.waf_model.specs.TransformScan.{Taken, scanned}

-- the bytes that were taken before are passed
scanned_drop : (front : List ℕ → Option Taken) (n : ℕ) (text : List ℕ) → scanned front n text ≡ scanned front 0 (drop n text)
unfolding scanned
scanned_drop front zero [] = refl
scanned_drop front (suc n) [] = refl
scanned_drop front zero (b ∷ rest) = refl
scanned_drop front (suc n) (b ∷ rest) = scanned_drop front n rest

drop_less : (n : ℕ) (b : ℕ) (rest : List ℕ) → 0 < n → drop (n - 1) rest ≡ drop n (b ∷ rest)
drop_less zero b rest some = absurd (omega arith)
drop_less (suc n) b rest some = let less : suc n - 1 ≡ n = omega arith in ap (λ k. drop k rest) less

stays : (front : List ℕ → Option Taken) (b : ℕ) (rest : List ℕ) → front (b ∷ rest) ≡ None → scanned front 0 (b ∷ rest) ≡ b ∷ scanned front 0 rest
unfolding scanned
stays front b rest none = rw none refl

takes : (front : List ℕ → Option Taken) (b : ℕ) (rest : List ℕ) (t : Taken) → front (b ∷ rest) ≡ Some t
    → scanned front 0 (b ∷ rest) ≡ t.image ++ scanned front (t.size - 1) rest
unfolding scanned
takes front b rest t some = rw some refl

-- where nothing is taken, the first byte stays
pub scan_stays : (front : List ℕ → Option Taken) (text : List ℕ) (b : ℕ) (rest : List ℕ) → text ≡ b ∷ rest → front text ≡ None
    → scanned front 0 text ≡ b ∷ scanned front 0 rest
scan_stays front text b rest is none = ap (scanned front 0) is ∙ stays front b rest (ap front (sym is) ∙ none)

-- where a front is taken, its image follows
pub scan_takes : (front : List ℕ → Option Taken) (text : List ℕ) (b : ℕ) (rest : List ℕ) (t : Taken) (behind : List ℕ)
    → text ≡ b ∷ rest → front text ≡ Some t → 0 < t.size → behind ≡ drop t.size text
    → scanned front 0 text ≡ t.image ++ scanned front 0 behind
scan_takes front text b rest t behind is some size so =
    ap (scanned front 0) is ∙ takes front b rest t (ap front (sym is) ∙ some)
    ∙ ap (λ l. t.image ++ l)
    (scanned_drop front (t.size - 1) rest
    ∙ ap (scanned front 0) (drop_less t.size b rest size ∙ ap (drop t.size) (sym is) ∙ sym so))
