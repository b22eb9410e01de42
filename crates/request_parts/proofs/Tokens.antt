-- What the crate `http` takes for a token is one.
use Rattle.std.proofs.Common.{◌≡◌, ℕ, List, length, Bool, true, false, ◌&&◌, ◌||◌, leb, refl, sym, ◌∙◌, arith, true≢false}
use Rattle.std.proofs.lemmas.Bool.{leb-true, le-leb}
use Rattle.std.proofs.lemmas.List.Sums.{AllPass-from_list_all, list_all-from_AllPass}
use Rattle.std.specs.List.{list_all, list_any}
use Rattle.std.specs.Prelude.{codes, ◌==◌}
use Rattle.http_header.specs.Token.{IsToken, AllPass, is_token_byte as is_tchar}
use Rattle.waf_model.specs.Within.{is_token, is_token_byte}

-- the letters and digits in another order
reordered : (digit upper lower mark : Bool) → (((digit || upper) || lower) || mark) ≡ (((upper || lower) || digit) || mark)
reordered true true true mark = refl
reordered true true false mark = refl
reordered true false true mark = refl
reordered true false false mark = refl
reordered false true true mark = refl
reordered false true false mark = refl
reordered false false true mark = refl
reordered false false false mark = refl

same_byte : (b : ℕ) → is_tchar b ≡ is_token_byte b
unfolding is_tchar
same_byte b =
    reordered (leb 48 b && leb b 57) (leb 65 b && leb b 90) (leb 97 b && leb b 122) (list_any (λ mark. mark == b) (codes "!#$%&'*+-.^_`|~"))

both : (a b : Bool) → a ≡ true → b ≡ true → (a && b) ≡ true
both true b e f = f
both false b e f = e

parts : (a b : Bool) → (a && b) ≡ true → (a ≡ true) × (b ≡ true)
parts true b e = (refl, e)
parts false b e = absurd (true≢false (sym e))

all_pass : (text : List ℕ) → AllPass is_tchar text → list_all is_token_byte text ≡ true
all_pass text all = list_all-from_AllPass is_token_byte text (λ k d h. sym (same_byte _) ∙ all k d h)

each_passes : (text : List ℕ) → list_all is_token_byte text ≡ true → AllPass is_tchar text
each_passes text e = λ k d h. same_byte _ ∙ AllPass-from_list_all is_token_byte text e k d h

pub token_test : (text : List ℕ) → IsToken text → true ≡ is_token text
token_test text token = sym (both (leb 1 (length text)) (list_all is_token_byte text) (le-leb 1 (length text) (omega (arith, token.0))) (all_pass text token.1))

from_test : (text : List ℕ) → is_token text ≡ true → IsToken text
from_test text e =
    let (long, bytes) = parts (leb 1 (length text)) (list_all is_token_byte text) e in
    (omega (arith, leb-true 1 (length text) long), each_passes text bytes)

not_true : (b : Bool) → (b ≡ true → ⊥) → false ≡ b
not_true true none = absurd (none refl)
not_true false none = refl

pub no_token_test : (text : List ℕ) → (IsToken text → ⊥) → false ≡ is_token text
no_token_test text none = not_true (is_token text) (λ e. none (from_test text e))
