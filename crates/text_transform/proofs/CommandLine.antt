-- What is still to be written of a command line.
use Rattle.std.proofs.Common.{◌≡◌, ℕ, ◌+◌, ◌<◌, Bool, true, false, not, ◌||◌, List, ◌∷◌, ◌++◌, map, drop, length, get_or, ◌⊎◌, inl, inr, refl, sym, ap, subst, ◌∙◌, arith}
use Rattle.std.specs.Prelude.{if◌then◌else◌, ◌==◌, codes}
use Rattle.std.specs.List.{filter}
use Rattle.std.proofs.lemmas.List.{at_drop_more}
use Rattle.std.proofs.lemmas.Bool.Decides.{Decides-eqb, nat_tests}
use Rattle.waf_model.specs.TransformBytes.{lower_case}
use Rattle.waf_model.specs.TransformSpaces.{is_among, unspaced_before, single_spaced}
use Rattle.text_transform.specs.CommandLine.{is_mark, is_between, spaced_byte}
use Rattle.text_transform.proofs.Filling.{wrote_all, skipped}
use Rattle.text_transform.proofs.WhiteSpace.{or_false, plain_at, behind_space}

-- the text with spaces between words and without marks
abbrev pub words : List ℕ → List ℕ
words text = map (λ b. if is_among (codes ",;") b then 32 else b) (filter (λ b. not (is_among (codes "\\\"'^") b)) text)

-- what spaced text becomes
abbrev pub tightened : List ℕ → List ℕ
tightened text = map lower_case (unspaced_before (codes "/(") (single_spaced text))

-- what is still to be written, with a space in front that isn't written yet or without
abbrev pub unwritten : Bool → List ℕ → List ℕ
unwritten true rest = tightened (32 ∷ words rest)
unwritten false rest = tightened (words rest)

or_true : (a b : Bool) → (a || b) ≡ true → (a ≡ true) ⊎ (b ≡ true)
or_true true b h = inl refl
or_true false b h = inr h

words_mark : (b : ℕ) (rest : List ℕ) → is_mark b ≡ true → words (b ∷ rest) ≡ words rest
words_mark b rest mark = rw mark refl

-- `,` and `;` and the space are no marks
between_no_mark : (b : ℕ) → is_between b ≡ true → is_mark b ≡ false
between_no_mark b between = grind (arith, nat_tests)

words_between : (b : ℕ) (rest : List ℕ) → is_between b ≡ true → words (b ∷ rest) ≡ 32 ∷ words rest
words_between b rest between = elim (or_true (b == 32) (is_among (codes ",;") b) between) [
  | inl space ↦
      let is : b ≡ 32 = (Decides-eqb b 32).0 space in
      subst (λ (x : ℕ). words (x ∷ rest) ≡ 32 ∷ words rest) (sym is) refl
  | inr among ↦ rw (between_no_mark b between) (rw among refl)
]

words_other : (b : ℕ) (rest : List ℕ) → is_mark b ≡ false → is_between b ≡ false → words (b ∷ rest) ≡ b ∷ words rest
words_other b rest mark between = rw mark (rw ((or_false (b == 32) (is_among (codes ",;") b) between).1) refl)

-- a byte of a word is written, behind the space before it
tightened_plain : (b : ℕ) (t : List ℕ) → (b == 32) ≡ false → tightened (b ∷ t) ≡ lower_case b ∷ tightened t
tightened_plain b t other = ap (λ l. map lower_case (unspaced_before (codes "/(") l)) (plain_at b t other) ∙ rw other refl

pub mark_next : (r : Bool) (b : ℕ) (rest : List ℕ) → is_mark b ≡ true → unwritten r (b ∷ rest) ≡ unwritten r rest
mark_next true b rest mark = ap (λ l. tightened (32 ∷ l)) (words_mark b rest mark)
mark_next false b rest mark = ap tightened (words_mark b rest mark)

pub between_next : (r : Bool) (b : ℕ) (rest : List ℕ) → is_between b ≡ true → unwritten r (b ∷ rest) ≡ unwritten true rest
between_next true b rest between = ap (λ l. tightened (32 ∷ l)) (words_between b rest between)
between_next false b rest between = ap tightened (words_between b rest between)

-- a byte of a word behind a space
behind : (b : ℕ) (t : List ℕ) → (b == 32) ≡ false → tightened (32 ∷ b ∷ t) ≡ spaced_byte true b ++ tightened t
behind b t other =
    ap (λ l. map lower_case (unspaced_before (codes "/(") l)) (behind_space b t other ∙ ap (λ l. 32 ∷ l) (plain_at b t other))
    ∙ by_test (is_among (codes "/(") b) refl
  where
    by_test : (q : Bool) → is_among (codes "/(") b ≡ q
        → map lower_case (unspaced_before (codes "/(") (32 ∷ b ∷ single_spaced t)) ≡ spaced_byte true b ++ tightened t
    by_test true opens = rw opens (rw other refl)
    by_test false opens = rw opens (rw other refl)

pub other_next : (r : Bool) (b : ℕ) (rest : List ℕ) → is_mark b ≡ false → is_between b ≡ false
    → unwritten r (b ∷ rest) ≡ spaced_byte r b ++ unwritten false rest
other_next false b rest mark between =
    ap tightened (words_other b rest mark between) ∙ tightened_plain b (words rest) (or_false (b == 32) (is_among (codes ",;") b) between).0
other_next true b rest mark between =
    ap (λ l. tightened (32 ∷ l)) (words_other b rest mark between)
    ∙ behind b (words rest) (or_false (b == 32) (is_among (codes ",;") b) between).0

-- one byte of the text later, where it is a mark, a space, or another
pub mark_skipped : (w done whole : List ℕ) (i : ℕ) (r : Bool) → i < length w → is_mark (get_or w i 0) ≡ true
    → done ++ unwritten r (drop i w) ≡ whole → done ++ unwritten r (drop (i + 1) w) ≡ whole
mark_skipped w done whole i r within mark so =
    skipped done (unwritten r (drop i w)) (unwritten r (drop (i + 1) w)) whole so
    (at_drop_more (unwritten r) w i 0 within ∙ mark_next r (get_or w i 0) (drop (i + 1) w) mark)

pub space_skipped : (w done whole : List ℕ) (i : ℕ) (r : Bool) → i < length w → is_between (get_or w i 0) ≡ true
    → done ++ unwritten r (drop i w) ≡ whole → done ++ unwritten true (drop (i + 1) w) ≡ whole
space_skipped w done whole i r within between so =
    skipped done (unwritten r (drop i w)) (unwritten true (drop (i + 1) w)) whole so
    (at_drop_more (unwritten r) w i 0 within ∙ between_next r (get_or w i 0) (drop (i + 1) w) between)

pub byte_written : (w done whole : List ℕ) (i : ℕ) (r : Bool) → i < length w → is_mark (get_or w i 0) ≡ false → is_between (get_or w i 0) ≡ false
    → done ++ unwritten r (drop i w) ≡ whole → (done ++ spaced_byte r (get_or w i 0)) ++ unwritten false (drop (i + 1) w) ≡ whole
byte_written w done whole i r within mark between so =
    wrote_all done (spaced_byte r (get_or w i 0)) (unwritten r (drop i w)) (unwritten false (drop (i + 1) w)) whole so
    (at_drop_more (unwritten r) w i 0 within ∙ other_next r (get_or w i 0) (drop (i + 1) w) mark between)
