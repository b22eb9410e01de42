-- A text passes a test exactly where its truth value is true.
use Rattle.std.proofs.Common.{◌≡◌, ℕ, ◌+◌, ◌-◌, ◌≤◌, ◌↔◌, List, [], ◌∷◌, ◌++◌, length, take, drop, reverse, ◌&&◌, ◌==◌, IsTrue, refl, sym, ap, ◌∙◌, subst, arith, append_assoc, length-append, take-append-drop}
use Rattle.std.proofs.lemmas.Bool.Decides.{Decides-eqb}
use Rattle.std.proofs.lemmas.List.{reverse-append, reverse-reverse}
use Rattle.std.proofs.lemmas.Slice.Eq.{bytes_eq-Decides, starts_is, ends_is}
use Rattle.std.proofs.Math.Seq.{drop-append_seam, take-append_seam}
use Rattle.std.specs.List.{starts_with}
use Rattle.waf_laws.proofs.PatternTruths.{found_decided}
use Rattle.waf_laws.proofs.Truths.{both_decided, opposite_decided, same_decided, at_most_decided, less_decided, numbered, some_decided}
use Rattle.waf_model.specs.Passes.{Test, Passes, Stands, Compares, BeginsOutside, EndsOutside, is_word_byte}
use Rattle.waf_model.specs.Passes as tests
use Rattle.waf_model.specs.Pattern.{Found}
use Rattle.waf_model.specs.PatternTruth.{is_found}
use Rattle.waf_model.specs.TestTruth.{begins_outside, ends_outside, stands_at, is_word_at, stands, compares_so, passes}
use Rattle.waf_model.specs.declared.matching.Compare.{Compare}
use Rattle.waf_model.specs.declared.matching.Compare.TheVariants as compares
use Rattle.waf_model.specs.declared.matching.Position.{Position}
use Rattle.waf_model.specs.declared.matching.Position.TheVariants as positions

-- ---- words

begins_decided : (text : List ℕ) → IsTrue (begins_outside text) ↔ BeginsOutside text
begins_decided [] = (λ h b rest is inside. cc, λ h. refl)
begins_decided (b ∷ rest) =
    let outside = opposite_decided (is_word_byte b) (IsTrue (is_word_byte b)) (λ h. h, λ h. h) in (
      λ h c others is inside. let same : b ≡ c = cc in outside.0 h (subst (λ (x : ℕ). IsTrue (is_word_byte x)) (sym same) inside),
      λ h. outside.1 (h b rest refl),
    )

turned_front : (b : ℕ) (rest text : List ℕ) → reverse text ≡ b ∷ rest → text ≡ reverse rest ++ b ∷ []
turned_front b rest text is = sym (reverse-reverse text) ∙ ap reverse is ∙ reverse-append (b ∷ []) rest

ends_decided : (text : List ℕ) → IsTrue (ends_outside text) ↔ EndsOutside text
ends_decided text =
    let begins = begins_decided (reverse text) in (
      λ h front b is inside. begins.0 h b (reverse front) (ap reverse is ∙ reverse-append front (b ∷ [])) inside,
      λ h. begins.1 (λ b rest is inside. h (reverse rest) b (turned_front b rest text is) inside),
    )

-- ---- where a search string stands

starts_decided : (search text : List ℕ) → IsTrue (starts_with ◌==◌ text search) ↔ ((b : List ℕ) × (text ≡ search ++ b))
starts_decided search text =
    let is = starts_is Decides-eqb text search (starts_with ◌==◌ text search) refl in
    (λ h. (drop (length search) text, is.0 h), λ (b, same). is.1 b same)

-- the search string stands behind so many bytes
abbrev Behind : List ℕ → List ℕ → ℕ → Type 0
Behind search text k = (b : List ℕ) × (drop k text ≡ search ++ b)

-- and is a word there
abbrev WordBehind : List ℕ → List ℕ → ℕ → Type 0
WordBehind search text k = (Behind search text k × EndsOutside (take k text)) × BeginsOutside (drop (length search) (drop k text))

module _ (search text : List ℕ) where
  -- the text is what stands before a place and what stands behind
  cut_at : (k : ℕ) (b : List ℕ) → drop k text ≡ search ++ b → text ≡ take k text ++ search ++ b
  cut_at k b is = sym (take-append-drop k text) ∙ ap (λ l. take k text ++ l) is ∙ sym (append_assoc (take k text) search b)

  module _ (a b : List ℕ) (is : text ≡ a ++ search ++ b) where
    grouped : text ≡ a ++ (search ++ b)
    grouped = is ∙ append_assoc a search b

    fits : length a ≤ length text
    fits = omega (arith, ap length grouped, length-append a (search ++ b))

    before : take (length a) text ≡ a
    before = ap (take (length a)) grouped ∙ take-append_seam a (search ++ b)

    behind : drop (length a) text ≡ search ++ b
    behind = ap (drop (length a)) grouped ∙ drop-append_seam a (search ++ b)

  left_over : (k : ℕ) (b : List ℕ) → drop k text ≡ search ++ b → drop (length search) (drop k text) ≡ b
  left_over k b is = ap (drop (length search)) is ∙ drop-append_seam search b

  word_decided : (k : ℕ) → IsTrue (is_word_at search text k) ↔ WordBehind search text k
  word_decided k =
      both_decided (stands_at search text k && ends_outside (take k text)) (begins_outside (drop (length search) (drop k text)))
      (Behind search text k × EndsOutside (take k text)) (BeginsOutside (drop (length search) (drop k text)))
      (both_decided (stands_at search text k) (ends_outside (take k text)) (Behind search text k) (EndsOutside (take k text))
      (starts_decided search (drop k text)) (ends_decided (take k text)))
      (begins_decided (drop (length search) (drop k text)))

  pub stands_decided : (position : Position) → IsTrue (stands position search text) ↔ Stands position search text
  stands_decided positions.Exactly = bytes_eq-Decides text search
  stands_decided positions.Starts = starts_decided search text
  stands_decided positions.Ends =
      let is = ends_is Decides-eqb text search (stands positions.Ends search text) refl in
      (λ h. (take (length text - length search) text, is.0 h), λ (a, same). is.1 a same)
  stands_decided positions.Contains =
      let some = numbered (stands_at search text) (Behind search text) (λ k. starts_decided search (drop k text)) (length text - 0 + 1) 0 in (
        λ h. let (k, least, most, (b, is)) = some.0 h in (take k text, b, cut_at k b is),
        λ (a, b, is). some.1 (length a, omega arith, (let within = fits a b is in omega arith), (b, behind a b is)),
      )
  stands_decided positions.Word =
      let some = numbered (is_word_at search text) (WordBehind search text) word_decided (length text - 0 + 1) 0 in (
        λ h.
            let (k, least, most, (((b, is), outside), free)) = some.0 h in
            (take k text, b, cut_at k b is, outside, subst BeginsOutside (left_over k b is) free),
        λ (a, b, is, outside, free).
            some.1 (
              length a,
              omega arith,
              (let within = fits a b is in omega arith),
              (((b, behind a b is), subst EndsOutside (sym (before a b is)) outside), subst BeginsOutside (sym (left_over (length a) b (behind a b is))) free),
            ),
      )

-- ---- lengths

compares_decided : (op : Compare) (bytes size : ℕ) → IsTrue (compares_so op bytes size) ↔ Compares op bytes size
compares_decided compares.Eq bytes size = same_decided bytes size
compares_decided compares.Ne bytes size = opposite_decided (bytes == size) (bytes ≡ size) (same_decided bytes size)
compares_decided compares.Le bytes size = at_most_decided bytes size
compares_decided compares.Lt bytes size = less_decided bytes size
compares_decided compares.Ge bytes size = at_most_decided size bytes
compares_decided compares.Gt bytes size = less_decided size bytes

-- ---- tests

pub passes_decided : (test : Test) (w : List ℕ) → IsTrue (passes test w) ↔ Passes test w
passes_decided (tests.search position text) w = stands_decided text w position
passes_decided (tests.size op bytes) w = compares_decided op (length w) bytes
passes_decided (tests.patterns all) w = some_decided (λ pattern. is_found pattern w) (λ pattern. Found pattern w) (λ pattern. found_decided pattern w) all
