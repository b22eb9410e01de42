-- Texts in quotation marks are those of the crate `json`.
use Rattle.std.proofs.Common.{◌≡◌, ℕ, List, [], ◌∷◌, ◌++◌, refl, ap, ap₂, sym, subst, inl, inr}
use Rattle.std.proofs.lemmas.Bool.{cases_eq, ne_eqb}
use Rattle.std.specs.List.{flat_map}
use Rattle.json.specs.Print.{escape_byte, quoted}
use Rattle.waf_model.specs.JsonText.{escaped, json_string}

at : (b c : ℕ) → b ≡ c → escaped c ≡ escape_byte c → escaped b ≡ escape_byte b
at b c is same = subst (λ (x : ℕ). escaped x ≡ escape_byte x) (sym is) same

same_escape : (b : ℕ) → escaped b ≡ escape_byte b
unfolding escape_byte
same_escape b =
    elim (cases_eq b 34) [
      | inl e ↦ at b 34 e refl
      | inr n34 ↦ elim (cases_eq b 92) [
        | inl e ↦ at b 92 e refl
        | inr n92 ↦ elim (cases_eq b 8) [
          | inl e ↦ at b 8 e refl
          | inr n8 ↦ elim (cases_eq b 9) [
            | inl e ↦ at b 9 e refl
            | inr n9 ↦ elim (cases_eq b 10) [
              | inl e ↦ at b 10 e refl
              | inr n10 ↦ elim (cases_eq b 12) [
                | inl e ↦ at b 12 e refl
                | inr n12 ↦ elim (cases_eq b 13) [
                  | inl e ↦ at b 13 e refl
                  | inr n13 ↦ rw (ne_eqb b 34 n34, ne_eqb b 92 n92, ne_eqb b 8 n8, ne_eqb b 9 n9, ne_eqb b 10 n10, ne_eqb b 12 n12, ne_eqb b 13 n13) refl
                ]
              ]
            ]
          ]
        ]
      ]
    ]

pub same_inside : (text : List ℕ) → flat_map escaped text ≡ flat_map escape_byte text
same_inside [] = refl
same_inside (b ∷ text) = ap₂ (λ x y. x ++ y) (same_escape b) (same_inside text)

pub same_quoted : (text : List ℕ) → json_string text ≡ quoted text
same_quoted text = ap (λ inside. 34 ∷ (inside ++ 34 ∷ [])) (same_inside text)
