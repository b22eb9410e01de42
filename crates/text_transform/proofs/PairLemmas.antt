-- Pairs of hexadecimal digits at the front of a text, and the literals of SQL that they make.
use Rattle.std.proofs.Common.{◌≡◌, ℕ, suc, ◌+◌, ◌*◌, ◌≤◌, ◌<◌, Bool, true, false, ◌&&◌, ◌||◌, not, eqb, List, [], ◌∷◌, ◌++◌, drop, length, get_or, Option, Some, None, is_some, refl, sym, ap, ◌∙◌, arith, drop-drop}
use Rattle.std.specs.Prelude.{codes, ◌==◌}
use Rattle.std.specs.List.{starts_with}
use Rattle.std.proofs.lemmas.Bool.Decides.{nat_tests}
use Rattle.waf_model.specs.TransformScan.{Taken, scanned}
use Rattle.waf_model.specs.TransformHex.{is_pair, pair_byte, leading_pairs, sql_hex_at, sql_hex_decoded}
use Rattle.text_transform.specs.Pairs.{BeginsNoPair, BeginsPair}
use Rattle.text_transform.proofs.Filling.{wrote_all}
use Rattle.text_transform.proofs.Scanning.{scan_stays, scan_takes}

some_bytes : (n : ℕ) → (suc n == 0) ≡ false
some_bytes n = grind (arith, nat_tests)

-- no pair: the text is too short, or one of its first two bytes is no digit
pub no_pair : (text : List ℕ) → (2 ≤ length text → is_pair (get_or text 0 0) (get_or text 1 0) ≡ false) → BeginsNoPair text
no_pair [] other = record { bytes = refl; pairs = refl }
no_pair (b ∷ []) other = record { bytes = refl; pairs = sym (some_bytes 0) }
no_pair (high ∷ low ∷ rest) other =
    let here : is_pair high low ≡ false = other (omega arith) in
    record { bytes = rw here refl; pairs = rw here (sym (some_bytes (suc (length rest)))) }

-- a pair
pub pair : (text : List ℕ) → 2 ≤ length text → is_pair (get_or text 0 0) (get_or text 1 0) ≡ true
    → BeginsPair text (pair_byte (get_or text 0 0) (get_or text 1 0)) (drop 2 text)
pair [] long here = absurd (omega arith)
pair (b ∷ []) long here = absurd (omega arith)
pair (high ∷ low ∷ rest) long here = record { bytes = rw here refl; pairs = rw here refl; rest = refl; shorter = omega arith }

pub both_digits : (a b : Bool) → a ≡ true → b ≡ true → (a && b) ≡ true
both_digits true b x y = y
both_digits false b x y = absurd (cc)

pub first_no_digit : (a b : Bool) → a ≡ false → (a && b) ≡ false
first_no_digit true b x = absurd (cc)
first_no_digit false b x = refl

pub second_no_digit : (a b : Bool) → b ≡ false → (a && b) ≡ false
second_no_digit true b x = x
second_no_digit false b x = refl

-- a byte of no literal stays
pub plain_step : (text : List ℕ) (b : ℕ) (rest : List ℕ) → text ≡ b ∷ rest → is_some (sql_hex_at text) ≡ false
    → sql_hex_decoded text ≡ b ∷ sql_hex_decoded rest
unfolding sql_hex_decoded
plain_step text b rest is none = scan_stays sql_hex_at text b rest is (to_none (sql_hex_at text) none)
  where
    to_none : (o : Option Taken) → is_some o ≡ false → o ≡ None
    to_none None h = refl
    to_none (Some t) h = absurd (cc)

-- what is taken, where a literal is there
some_literal : (text : List ℕ) → is_some (sql_hex_at text) ≡ true
    → sql_hex_at text ≡ Some (record { image = leading_pairs (drop 2 text); size = 2 + 2 * length (leading_pairs (drop 2 text)) })
some_literal text some = by_test ((starts_with eqb text (codes "0x") || starts_with eqb text (codes "0X")) && not (length (leading_pairs (drop 2 text)) == 0)) refl some
  where
    by_test : (q : Bool) → ((starts_with eqb text (codes "0x") || starts_with eqb text (codes "0X")) && not (length (leading_pairs (drop 2 text)) == 0)) ≡ q
        → is_some (sql_hex_at text) ≡ true
        → sql_hex_at text ≡ Some (record { image = leading_pairs (drop 2 text); size = 2 + 2 * length (leading_pairs (drop 2 text)) })
    by_test true is h = rw is refl
    by_test false is h = absurd (let no_literal : false ≡ true = rw is at h in cc)

-- a literal becomes the bytes of its pairs
pub literal_step : (text : List ℕ) (b : ℕ) (rest behind : List ℕ) → text ≡ b ∷ rest → is_some (sql_hex_at text) ≡ true
    → behind ≡ drop (2 * length (leading_pairs (drop 2 text))) (drop 2 text)
    → sql_hex_decoded text ≡ leading_pairs (drop 2 text) ++ sql_hex_decoded behind
unfolding sql_hex_decoded
literal_step text b rest behind is some so =
    let size : 0 < 2 + 2 * length (leading_pairs (drop 2 text)) = omega arith in
    scan_takes sql_hex_at text b rest (record { image = leading_pairs (drop 2 text); size = 2 + 2 * length (leading_pairs (drop 2 text)) }) behind is
    (some_literal text some) size (so ∙ drop-drop (2 * length (leading_pairs (drop 2 text))) 2 text)

-- behind a pair and those that follow it is behind those of the text
pub pair_behind : (text behind : List ℕ) (byte : ℕ) → BeginsPair text byte behind
    → drop (2 * length (leading_pairs behind)) behind ≡ drop (2 * length (leading_pairs text)) text
pair_behind text behind byte p =
    let more : 2 + 2 * length (leading_pairs behind) ≡ 2 * length (leading_pairs text) = omega (arith, ap length p.bytes) in
    ap (drop (2 * length (leading_pairs behind))) p.rest ∙ drop-drop (2 * length (leading_pairs behind)) 2 text ∙ ap (λ k. drop k text) more

-- the bytes of a literal are written
pub literal_written : (done whole text : List ℕ) (b : ℕ) (rest digits behind : List ℕ) → done ++ sql_hex_decoded text ≡ whole → text ≡ b ∷ rest
    → is_some (sql_hex_at text) ≡ true → digits ≡ drop 2 text → behind ≡ drop (2 * length (leading_pairs digits)) digits
    → (done ++ leading_pairs digits) ++ sql_hex_decoded behind ≡ whole
literal_written done whole text b rest digits behind so is some two past =
    wrote_all done (leading_pairs digits) (sql_hex_decoded text) (sql_hex_decoded behind) whole so
    (literal_step text b rest behind is some (past ∙ ap (λ l. drop (2 * length (leading_pairs l)) l) two)
    ∙ ap (λ l. leading_pairs l ++ sql_hex_decoded behind) (sym two))

pub nothing : sql_hex_decoded [] ≡ []
unfolding sql_hex_decoded scanned
nothing = refl
