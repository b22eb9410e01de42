-- References at the front of a text.
use Rattle.std.proofs.Common.{◌≡◌, ℕ, ◌<◌, true, false, ◌||◌, eqb, List, [], ◌∷◌, ◌++◌, drop, length, Option, Some, None, refl, sym, ap, subst, ◌∙◌, arith, drop-drop, length-drop}
use Rattle.std.specs.Borrow.{Bor}
use Rattle.std.specs.Prelude.{codes, option_map}
use Rattle.std.specs.List.{starts_with}
use Rattle.waf_model.specs.TransformScan.{Taken, scanned}
use Rattle.waf_model.specs.TransformEntities.{numbered_at, with_mark, reference_at, entities_decoded}
use Rattle.text_transform.specs.Fronts.{IsTaken, Splits}
use Rattle.text_transform.proofs.Filling.{wrote}
use Rattle.text_transform.proofs.Scanning.{scan_stays, scan_takes}

-- what is taken behind a mark is taken with it
marked : (mark : ℕ) (text digits : List ℕ) (taken : Option Taken) (byte : ℕ) (behind : List ℕ) → digits ≡ drop mark text
    → IsTaken taken digits byte behind → IsTaken (option_map (with_mark mark) taken) text byte behind
marked mark text digits None byte behind so is = is
marked mark text digits (Some t) byte behind so is =
    (is.0, omega (arith, is.1), is.2 ∙ ap (drop t.size) so ∙ drop-drop t.size mark text)

split_marked : (mark : ℕ) (text digits : List ℕ) (taken : Option Taken) (answer : Option (ℕ × Bor (List ℕ))) → digits ≡ drop mark text
    → Splits taken digits answer → Splits (option_map (with_mark mark) taken) text answer
split_marked mark text digits taken None so none = ap (option_map (with_mark mark)) none
split_marked mark text digits taken (Some x) so is = marked mark text digits taken x.0 x.1.now so is

hexadecimal_is : (text : List ℕ) → (starts_with eqb text (codes "&#x") || starts_with eqb text (codes "&#X")) ≡ true
    → reference_at text ≡ option_map (with_mark 3) (numbered_at 16 (drop 3 text))
hexadecimal_is text h = rw h refl

decimal_is : (text : List ℕ) → (starts_with eqb text (codes "&#x") || starts_with eqb text (codes "&#X")) ≡ false
    → starts_with eqb text (codes "&#") ≡ true → reference_at text ≡ option_map (with_mark 2) (numbered_at 10 (drop 2 text))
decimal_is text h k = rw h (rw k refl)

pub split_hexadecimal : (text digits : List ℕ) (answer : Option (ℕ × Bor (List ℕ)))
    → (starts_with eqb text (codes "&#x") || starts_with eqb text (codes "&#X")) ≡ true → digits ≡ drop 3 text
    → Splits (numbered_at 16 digits) digits answer → Splits (reference_at text) text answer
split_hexadecimal text digits answer test so split =
    subst (λ (t : Option Taken). Splits t text answer)
    (ap (λ l. option_map (with_mark 3) (numbered_at 16 l)) so ∙ sym (hexadecimal_is text test))
    (split_marked 3 text digits (numbered_at 16 digits) answer so split)

pub split_decimal : (text digits : List ℕ) (answer : Option (ℕ × Bor (List ℕ)))
    → (starts_with eqb text (codes "&#x") || starts_with eqb text (codes "&#X")) ≡ false → starts_with eqb text (codes "&#") ≡ true
    → digits ≡ drop 2 text → Splits (numbered_at 10 digits) digits answer → Splits (reference_at text) text answer
split_decimal text digits answer test other so split =
    subst (λ (t : Option Taken). Splits t text answer)
    (ap (λ l. option_map (with_mark 2) (numbered_at 10 l)) so ∙ sym (decimal_is text test other))
    (split_marked 2 text digits (numbered_at 10 digits) answer so split)

reference_step : (text : List ℕ) (b : ℕ) (rest : List ℕ) (o : Option Taken) (byte : ℕ) (behind : List ℕ) → text ≡ b ∷ rest
    → reference_at text ≡ o → IsTaken o text byte behind → entities_decoded text ≡ byte ∷ entities_decoded behind
unfolding entities_decoded
reference_step text b rest None byte behind is same taken = absurd taken
reference_step text b rest (Some t) byte behind is same taken =
    scan_takes reference_at text b rest t behind is same taken.1 taken.2 ∙ ap (λ l. l ++ scanned reference_at 0 behind) taken.0

plain_step : (text : List ℕ) (b : ℕ) (rest : List ℕ) → text ≡ b ∷ rest → reference_at text ≡ None → entities_decoded text ≡ b ∷ entities_decoded rest
unfolding entities_decoded
plain_step text b rest is none = scan_stays reference_at text b rest is none

-- the byte of a reference is written
pub reference_written : (done whole text : List ℕ) (b : ℕ) (rest : List ℕ) (byte : ℕ) (behind : List ℕ) → done ++ entities_decoded text ≡ whole
    → text ≡ b ∷ rest → IsTaken (reference_at text) text byte behind → (done ++ byte ∷ []) ++ entities_decoded behind ≡ whole
reference_written done whole text b rest byte behind so is taken =
    wrote done byte (entities_decoded text) (entities_decoded behind) whole so (reference_step text b rest (reference_at text) byte behind is refl taken)

-- a byte of no reference is written
pub plain_written : (done whole text : List ℕ) (b : ℕ) (rest : List ℕ) → done ++ entities_decoded text ≡ whole → text ≡ b ∷ rest
    → reference_at text ≡ None → (done ++ b ∷ []) ++ entities_decoded rest ≡ whole
plain_written done whole text b rest so is none = wrote done b (entities_decoded text) (entities_decoded rest) whole so (plain_step text b rest is none)

-- what stands behind a reference is shorter
pub shorter : (o : Option Taken) (text : List ℕ) (b : ℕ) (rest : List ℕ) (byte : ℕ) (behind : List ℕ) → text ≡ b ∷ rest → IsTaken o text byte behind → length behind < length text
shorter None text b rest byte behind is taken = absurd taken
shorter (Some t) text b rest byte behind is taken =
    omega (arith, taken.1, ap length taken.2, length-drop t.size text, ap length is)

pub nothing : entities_decoded [] ≡ []
unfolding entities_decoded scanned
nothing = refl
