-- Texts that are compared with others joined, part by part.
use Rattle.std.proofs.Common.{◌≡◌, ℕ, ◌+◌, ◌-◌, ◌<◌, Bool, true, false, eqb, List, [], ◌∷◌, ◌++◌, drop, length, refl, sym, ap, ◌∙◌, arith, length-append}
use Rattle.std.proofs.lemmas.List.{append-nil}
use Rattle.std.proofs.lemmas.Cmp.{nat_list_eq_equiv}
use Rattle.std.proofs.Math.Seq.{drop-append-add}
use Rattle.std.specs.Prelude.{codes, ◌&&◌}
use Rattle.std.specs.List.{ends_with, starts_with}
use Rattle.std.specs.Str.{bytes_eq}

and_assoc : (p q r : Bool) → (p && (q && r)) ≡ ((p && q) && r)
and_assoc true q r = refl
and_assoc false q r = refl

-- a text begins with two joined just where it begins with the first, and what is behind it with the second
pub starts_split : (text a b : List ℕ) → starts_with eqb text (a ++ b) ≡ (starts_with eqb text a && starts_with eqb (drop (length a) text) b)
starts_split text [] b = refl
starts_split [] (x ∷ a) b = refl
starts_split (y ∷ text) (x ∷ a) b = ap (λ p. eqb x y && p) (starts_split text a b) ∙ and_assoc (eqb x y) (starts_with eqb text a) (starts_with eqb (drop (length a) text) b)

-- the test of what is behind the first decides
pub starts_behind : (text a b : List ℕ) (r : Bool) → starts_with eqb text a ≡ true → r ≡ starts_with eqb (drop (length a) text) b → r ≡ starts_with eqb text (a ++ b)
starts_behind text a b r first rest = rest ∙ sym (starts_split text a b ∙ ap (λ p. p && starts_with eqb (drop (length a) text) b) first)

joined_split : (text a b : List ℕ) → bytes_eq (a ++ b) text ≡ (starts_with eqb text a && bytes_eq b (drop (length a) text))
joined_split text [] b = refl
joined_split [] (x ∷ a) b = refl
joined_split (y ∷ text) (x ∷ a) b = ap (λ p. eqb x y && p) (joined_split text a b) ∙ and_assoc (eqb x y) (starts_with eqb text a) (bytes_eq b (drop (length a) text))

-- a text is two joined just where it begins with the first, and what is behind it is the second
pub whole_split : (text a b : List ℕ) → bytes_eq text (a ++ b) ≡ (starts_with eqb text a && bytes_eq (drop (length a) text) b)
whole_split text a b = nat_list_eq_equiv.symm text (a ++ b) ∙ joined_split text a b
    ∙ ap (λ p. starts_with eqb text a && p) (nat_list_eq_equiv.symm b (drop (length a) text))

-- the test of what is behind the first decides
pub whole_behind : (text a b : List ℕ) (r : Bool) → starts_with eqb text a ≡ true → r ≡ bytes_eq (drop (length a) text) b → r ≡ bytes_eq text (a ++ b)
whole_behind text a b r first rest = rest ∙ sym (whole_split text a b ∙ ap (λ p. p && bytes_eq (drop (length a) text) b) first)

-- two joined end as the second does, unless it is empty
pub ends_behind : (a b : List ℕ) → 0 < length b → ends_with eqb (a ++ b) (codes ":") ≡ ends_with eqb b (codes ":")
ends_behind a b some = ap (λ l. bytes_eq (codes ":") l) (ap (λ n. drop n (a ++ b)) length_behind ∙ drop-append-add a b (length b - 1))
  where
    length_behind : length (a ++ b) - 1 ≡ length a + (length b - 1)
    length_behind = rw (length-append a b) (omega (arith, some))

-- and with nothing behind it as the first
pub ends_alone : (a b : List ℕ) → b ≡ [] → ends_with eqb (a ++ b) (codes ":") ≡ ends_with eqb a (codes ":")
ends_alone a b none = ap (λ l. ends_with eqb l (codes ":")) (ap (λ l. a ++ l) none ∙ append-nil a)
