-- Names that are compared without regard to the case of letters.
use Rattle.std.proofs.Common.{◌≡◌, ◌↔◌, ℕ, List, map, Bool, true, false, IsTrue, refl, sym}
use Rattle.std.proofs.lemmas.Slice.Eq.{bytes_eq-Decides}
use Rattle.std.specs.Char.{to_ascii_lowercase}
use Rattle.std.specs.Str.{str_eq_ignore_ascii_case}

-- two tests of which each passes where the other does
same_test : (a b : Bool) → (a ≡ true → b ≡ true) → (b ≡ true → a ≡ true) → a ≡ b
same_test true b to from = sym (to refl)
same_test false true to from = from refl
same_test false false to from = refl

pub same_without_case : (b : Bool) (name other : List ℕ) → IsTrue b ↔ (map to_ascii_lowercase name ≡ map to_ascii_lowercase other) → b ≡ str_eq_ignore_ascii_case name other
same_without_case b name other test =
    let decides = bytes_eq-Decides (map to_ascii_lowercase name) (map to_ascii_lowercase other) in
    same_test b (str_eq_ignore_ascii_case name other) (λ h. decides.1 (test.0 h)) (λ h. test.1 (decides.0 h))
