-- The spaces that are still to be written, while white space is compressed.
use Rattle.std.proofs.Common.{◌≡◌, ℕ, ◌+◌, ◌<◌, Bool, true, false, ◌||◌, ◌&&◌, List, [], ◌∷◌, ◌++◌, map, drop, length, get_or, refl, sym, ap, subst, ◌∙◌}
use Rattle.std.specs.Prelude.{if◌then◌else◌, ◌==◌, nat_le}
use Rattle.std.proofs.lemmas.List.{at_drop_more}
use Rattle.std.proofs.lemmas.Bool.Decides.{Decides-eqb}
use Rattle.waf_model.specs.TransformSpaces.{single_spaced, is_white_space}
use Rattle.text_transform.proofs.Filling.{wrote, skipped}

-- what white space becomes
abbrev pub whitened : ℕ → ℕ
whitened b = if is_white_space b then 32 else b

-- what is still to be written: behind a space that was written, without the spaces that follow
abbrev pub unwritten : Bool → List ℕ → List ℕ
unwritten true rest = drop 1 (single_spaced (32 ∷ map whitened rest))
unwritten false rest = single_spaced (map whitened rest)

pub or_false : (a b : Bool) → (a || b) ≡ false → (a ≡ false) × (b ≡ false)
or_false true b h = absurd (cc)
or_false false b h = (refl, h)

-- what is no white space is no space
not_space : (b : ℕ) → is_white_space b ≡ false → (b == 32) ≡ false
not_space b other = (or_false (nat_le 9 b && nat_le b 13) (b == 32) (or_false ((nat_le 9 b && nat_le b 13) || b == 32) (b == 160) other).0).1

pub plain_at : (b : ℕ) (t : List ℕ) → (b == 32) ≡ false → single_spaced (b ∷ t) ≡ b ∷ single_spaced t
plain_at b t other = rw other refl

pub behind_space : (b : ℕ) (t : List ℕ) → (b == 32) ≡ false → single_spaced (32 ∷ b ∷ t) ≡ 32 ∷ single_spaced (b ∷ t)
behind_space b t other = rw other refl

whitened_plain : (b : ℕ) → is_white_space b ≡ false → whitened b ≡ b
whitened_plain b other = rw other refl

whitened_white : (b : ℕ) → is_white_space b ≡ true → whitened b ≡ 32
whitened_white b white = rw white refl

-- a byte that is no white space is written
plain_next : (r : Bool) (b : ℕ) (rest : List ℕ) → is_white_space b ≡ false → unwritten r (b ∷ rest) ≡ b ∷ unwritten false rest
plain_next false b rest other = ap (λ x. single_spaced (x ∷ map whitened rest)) (whitened_plain b other) ∙ plain_at b (map whitened rest) (not_space b other)
plain_next true b rest other =
    ap (λ x. drop 1 (single_spaced (32 ∷ x ∷ map whitened rest))) (whitened_plain b other)
    ∙ ap (drop 1) (behind_space b (map whitened rest) (not_space b other))
    ∙ plain_at b (map whitened rest) (not_space b other)

-- a text that begins with a space goes on beginning with one
begins_with_space : (t : List ℕ) → single_spaced (32 ∷ t) ≡ 32 ∷ drop 1 (single_spaced (32 ∷ t))
begins_with_space [] = refl
begins_with_space (b ∷ t) = by_test (b == 32) refl (begins_with_space t)
  where
    by_test : (q : Bool) → (b == 32) ≡ q → single_spaced (32 ∷ t) ≡ 32 ∷ drop 1 (single_spaced (32 ∷ t)) → single_spaced (32 ∷ b ∷ t) ≡ 32 ∷ drop 1 (single_spaced (32 ∷ b ∷ t))
    by_test true space so =
        let is : b ≡ 32 = (Decides-eqb b 32).0 space in
        subst (λ (x : ℕ). single_spaced (32 ∷ x ∷ t) ≡ 32 ∷ drop 1 (single_spaced (32 ∷ x ∷ t))) (sym is) so
    by_test false other so = rw other refl

-- the first white space of a run is written
white_first : (b : ℕ) (rest : List ℕ) → is_white_space b ≡ true → unwritten false (b ∷ rest) ≡ 32 ∷ unwritten true rest
white_first b rest white =
    ap (λ x. single_spaced (x ∷ map whitened rest)) (whitened_white b white) ∙ begins_with_space (map whitened rest)

-- the others are not
white_next : (b : ℕ) (rest : List ℕ) → is_white_space b ≡ true → unwritten true (b ∷ rest) ≡ unwritten true rest
white_next b rest white = ap (λ x. drop 1 (single_spaced (32 ∷ x ∷ map whitened rest))) (whitened_white b white)

pub nothing_left : (r : Bool) → unwritten r [] ≡ []
nothing_left true = refl
nothing_left false = refl

-- one byte of the text later, where it is no white space, the first of a run, or another of the run
pub plain_written : (w done whole : List ℕ) (i : ℕ) (r : Bool) → i < length w → is_white_space (get_or w i 0) ≡ false
    → done ++ unwritten r (drop i w) ≡ whole → (done ++ get_or w i 0 ∷ []) ++ unwritten false (drop (i + 1) w) ≡ whole
plain_written w done whole i r within other so =
    wrote done (get_or w i 0) (unwritten r (drop i w)) (unwritten false (drop (i + 1) w)) whole so
    (at_drop_more (unwritten r) w i 0 within ∙ plain_next r (get_or w i 0) (drop (i + 1) w) other)

pub space_written : (w done whole : List ℕ) (i : ℕ) → i < length w → is_white_space (get_or w i 0) ≡ true
    → done ++ unwritten false (drop i w) ≡ whole → (done ++ 32 ∷ []) ++ unwritten true (drop (i + 1) w) ≡ whole
space_written w done whole i within white so =
    wrote done 32 (unwritten false (drop i w)) (unwritten true (drop (i + 1) w)) whole so
    (at_drop_more (unwritten false) w i 0 within ∙ white_first (get_or w i 0) (drop (i + 1) w) white)

pub space_skipped : (w done whole : List ℕ) (i : ℕ) → i < length w → is_white_space (get_or w i 0) ≡ true
    → done ++ unwritten true (drop i w) ≡ whole → done ++ unwritten true (drop (i + 1) w) ≡ whole
space_skipped w done whole i within white so =
    skipped done (unwritten true (drop i w)) (unwritten true (drop (i + 1) w)) whole so
    (at_drop_more (unwritten true) w i 0 within ∙ white_next (get_or w i 0) (drop (i + 1) w) white)
