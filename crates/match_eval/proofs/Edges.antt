-- Texts that begin or end outside of words.
use Rattle.std.proofs.Common.{◌≡◌, ℕ, ◌↔◌, List, ◌∷◌, Bool, true, false, not, IsTrue, refl, sym, ap, ◌∙◌}
use Rattle.std.proofs.lemmas.Bool.{false≢true}
use Rattle.waf_model.specs.Passes.{BeginsOutside, is_word_byte}

outside_is : (word : Bool) → (word ≡ true → ⊥) → not word ≡ true
outside_is true unlike = absurd (unlike refl)
outside_is false unlike = refl

not_both : (word : Bool) → not word ≡ true → word ≡ true → ⊥
not_both true outside inside = false≢true outside
not_both false outside inside = false≢true inside

-- a text begins outside of words just where its first byte is none of a word
pub begins_is : (text : List ℕ) (b : ℕ) (rest : List ℕ) (word : Bool) → text ≡ b ∷ rest → word ≡ is_word_byte b
    → IsTrue (not word) ↔ BeginsOutside text
begins_is text b rest word is tells = (
  λ outside c others same inside.
      let head : c ≡ b = cc in
      not_both word outside (tells ∙ sym (ap is_word_byte head) ∙ inside),
  λ outside. outside_is word (λ inside. outside b rest is (sym tells ∙ inside)),
)
