-- Where a search string stands in a text.
use Rattle.std.proofs.Common.{◌≡◌, ℕ, ◌+◌, ◌<◌, ◌≤◌, ◌↔◌, List, ◌++◌, take, drop, length, Option, None, Some, IsTrue, is_some, refl, sym, ap, ◌∙◌, subst, arith, append_assoc, length-append, take-append-drop}
use Rattle.std.proofs.lemmas.Bool.{false≢true}
use Rattle.std.proofs.Math.Seq.{drop-append_seam, take-append_seam}
use Rattle.memchr.specs.Find.{FindsNeedle, OccursAt}
use Rattle.memchr.proofs.lemmas.MatchLemmas.{OccursAt-from_part, OccursAt-split}
use Rattle.waf_model.specs.Passes.{Stands, EndsOutside}
use Rattle.waf_model.specs.declared.matching.Position.TheVariants as positions
use Rattle.match_eval.specs.Standing.{IsWordAt}

module _ (search text : List ℕ) where
  -- the text is what stands before a place and what stands behind
  cut_at : (at : ℕ) (b : List ℕ) → drop at text ≡ search ++ b → text ≡ take at text ++ search ++ b
  cut_at at b is = sym (take-append-drop at text) ∙ ap (λ l. take at text ++ l) is ∙ sym (append_assoc (take at text) search b)

  module _ (a b : List ℕ) (is : text ≡ a ++ search ++ b) where
    grouped : text ≡ a ++ (search ++ b)
    grouped = is ∙ append_assoc a search b

    fits : length a + length search ≤ length text
    fits = omega (arith, ap length grouped, length-append a (search ++ b), length-append search b)

    before : take (length a) text ≡ a
    before = ap (take (length a)) grouped ∙ take-append_seam a (search ++ b)

    behind : drop (length a) text ≡ search ++ b
    behind = ap (drop (length a)) grouped ∙ drop-append_seam a (search ++ b)

    occurs : OccursAt text search (length a)
    occurs = OccursAt-from_part text search (length a) fits (ap (take (length search)) behind ∙ take-append_seam search b)

  -- a search answers whether it stands in the text
  pub contains_is : (found : Option ℕ) → FindsNeedle text search 0 found → IsTrue (is_some found) ↔ Stands positions.Contains search text
  contains_is None nowhere = (
    λ h. absurd (false≢true h),
    λ (a, b, is). let within = fits a b is in absurd (nowhere (length a) (omega arith) (omega arith) (occurs a b is)),
  )
  contains_is (Some at) first = (
    λ h. (take at text, drop (at + length search) text, cut_at at (drop (at + length search) text) (OccursAt-split text search at first.1)),
    λ h. refl,
  )

  -- it is a word of the text where it is one behind a front
  pub word_at : (at : ℕ) → IsWordAt search text at → Stands positions.Word search text
  word_at at (outside, (b, is, free)) = (take at text, b, cut_at at b is, outside, free)

  -- and nowhere, where it is one behind none
  pub word_nowhere : ((k : ℕ) → k < length text + 1 → IsWordAt search text k → ⊥) → Stands positions.Word search text → ⊥
  word_nowhere none (a, b, is, outside, free) =
      let within = fits a b is in
      none (length a) (omega arith) (subst EndsOutside (sym (before a b is)) outside, (b, behind a b is, free))
