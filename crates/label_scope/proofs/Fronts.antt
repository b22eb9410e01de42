-- Texts that begin with others.
use Rattle.std.proofs.Common.{◌≡◌, ℕ, zero, suc, ◌≤◌, ◌↔◌, Bool, true, false, eqb, List, [], ◌∷◌, ◌++◌, length, replicate, IsTrue, refl, sym, ap, ◌∙◌, arith, append_assoc, length-append}
use Rattle.std.proofs.lemmas.Bool.{false≢true}
use Rattle.std.proofs.lemmas.Bool.Decides.{Decides-eqb}
use Rattle.std.proofs.lemmas.List.{append-nil}
use Rattle.std.proofs.lemmas.Slice.Eq.{ends_is}
use Rattle.std.specs.Prelude.{◌&&◌, codes, take, ◌-◌, if◌then◌else◌}
use Rattle.std.specs.List.{ends_with, starts_with}
use Rattle.waf_model.specs.LabelMatch.{ended}

-- the text begins with the front
abbrev pub Begins : List ℕ → List ℕ → Type 0
Begins text front = (rest : List ℕ) × (text ≡ front ++ rest)

both_decided : (a b : Bool) (P Q R : Type 0) → IsTrue a ↔ P → IsTrue b ↔ Q → R ↔ (P × Q) → IsTrue (a && b) ↔ R
both_decided true b P Q R p q r = (λ h. r.1 (p.0 refl, q.0 h), λ h. q.1 (r.0 h).1)
both_decided false b P Q R p q r = (λ h. absurd (false≢true h), λ h. p.1 (r.0 h).0)

pub begins_decided : (text front : List ℕ) → IsTrue (starts_with eqb text front) ↔ Begins text front
begins_decided text [] = (λ h. (text, refl), λ h. refl)
begins_decided [] (x ∷ front) = (λ h. absurd (false≢true h), λ (rest, is). cc)
begins_decided (y ∷ text) (x ∷ front) =
    both_decided (eqb x y) (starts_with eqb text front) (x ≡ y) (Begins text front) (Begins (y ∷ text) (x ∷ front)) (Decides-eqb x y) (begins_decided text front) (
      λ (rest, is). (cc, (rest, cc)),
      λ (first, (rest, is)). (rest, cc),
    )

-- ---- fronts of fronts

pub begins_itself : (text : List ℕ) → Begins text text
begins_itself text = ([], sym (append-nil text))

pub begins_joined : (front rest : List ℕ) → Begins (front ++ rest) front
begins_joined front rest = (rest, refl)

pub begins_through : (text middle front : List ℕ) → Begins text middle → Begins middle front → Begins text front
begins_through text middle front (after, is) (between, same) =
    (between ++ after, is ∙ ap (λ l. l ++ after) same ∙ append_assoc front between after)

pub begins_length : (text front : List ℕ) → Begins text front → length front ≤ length text
begins_length text front (rest, is) = omega (arith, ap length is, length-append front rest)

-- of two fronts of a text the longer one begins with the shorter one
pub longer_begins : (text short long : List ℕ) → Begins text short → Begins text long → length short ≤ length long → Begins long short
longer_begins text [] long one other most = (long, refl)
longer_begins text (x ∷ short) [] one other most = absurd (omega arith)
longer_begins text (x ∷ short) (y ∷ long) (after, is) (rest, same) most =
    let joined : x ∷ (short ++ after) ≡ y ∷ (long ++ rest) = sym is ∙ same in
    let tails : short ++ after ≡ long ++ rest = cc in
    let first : x ≡ y = cc in
    let (between, splits) = longer_begins (short ++ after) short long (after, refl) (rest, tails) (omega arith) in
    (between, cc)

-- texts that begin with each other are the same
pub begins_both : (a b : List ℕ) → Begins a b → Begins b a → a ≡ b
begins_both a b (rest, is) other = by rest is
  where
    by : (rest : List ℕ) → a ≡ b ++ rest → a ≡ b
    by [] same = same ∙ append-nil b
    by (x ∷ more) same = absurd (omega (arith, begins_length b a other, ap length same, length-append b (x ∷ more)))

-- ---- keys with their colon

-- a key that is ended ends in a colon
pub ended_in_colon : (key : List ℕ) → (front : List ℕ) × (ended key ≡ front ++ 58 ∷ [])
ended_in_colon key = by (ends_with eqb key (codes ":")) refl
  where
    by : (ends : Bool) → ends_with eqb key (codes ":") ≡ ends → (front : List ℕ) × ((if ends then key else key ++ 58 ∷ []) ≡ front ++ 58 ∷ [])
    by true is = (take (length key - 1) key, (ends_is Decides-eqb key (codes ":") true (sym is)).0 refl)
    by false is = (key, refl)

no_colon : (count : ℕ) (front rest : List ℕ) → replicate count 120 ≡ (front ++ 58 ∷ []) ++ rest → ⊥
no_colon zero [] rest is = cc
no_colon zero (x ∷ front) rest is = cc
no_colon (suc count) [] rest is = let differ : 120 ≡ 58 = cc in false≢true (ap (λ (n : ℕ). eqb n 58) differ)
no_colon (suc count) (x ∷ front) rest is = no_colon count front rest (cc)

-- what ends in a colon and begins a text with letters `x` behind it begins the text
pub colon_within : (text : List ℕ) (count : ℕ) (front : List ℕ) → Begins (text ++ replicate count 120) (front ++ 58 ∷ []) → Begins text (front ++ 58 ∷ [])
colon_within [] count front (rest, is) = absurd (no_colon count front rest is)
colon_within (y ∷ text) count [] (rest, is) = (text, (let first : y ≡ 58 = cc in cc))
colon_within (y ∷ text) count (x ∷ front) (rest, is) =
    let first : y ≡ x = cc in
    let tails : text ++ replicate count 120 ≡ (front ++ 58 ∷ []) ++ rest = cc in
    let (between, splits) = colon_within text count front (rest, tails) in
    (between, cc)

-- the same of a key that is ended
pub ended_within : (text : List ℕ) (count : ℕ) (key : List ℕ) → Begins (text ++ replicate count 120) (ended key) → Begins text (ended key)
ended_within text count key (rest, is) =
    let (front, ends) = ended_in_colon key in
    let (between, splits) = colon_within text count front (rest, is ∙ ap (λ l. l ++ rest) ends) in
    (between, splits ∙ ap (λ l. l ++ between) (sym ends))
