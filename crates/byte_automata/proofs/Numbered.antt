-- Facts on numberings of different things.
use Rattle.std.proofs.Common.{◌≡◌, ℕ, ◌↔◌, Bool, true, cond, List, [], ◌∷◌, ◌++◌, length, get_or, slice_get, Some, sym, ap, ◌∙◌, inl, inr, arith}
use Rattle.std.specs.List.{list_any, IsDistinct}
use Rattle.std.proofs.lemmas.Bool.{false≢true, cases_Bool, cases_lt}
use Rattle.std.proofs.lemmas.List.{length_push, get_or_append_left}
use Rattle.std.proofs.lemmas.List.Folds.{list_any_at}
use Rattle.std.proofs.lemmas.Map.Keys.{apart_from_distinct}
use Rattle.std.proofs.lemmas.Option.{get_or_from_slice_get, slice_get_within}
use Rattle.indexmap.specs.IndexSet.{insert_key}
use Rattle.byte_automata.specs.Members.{AreDifferent}
use Rattle.byte_automata.specs.Numbers.{Numbers}

module _ {K : Type 0} (eq : K → K → Bool) (exact : (a b : K) → (eq a b ≡ true) ↔ (a ≡ b)) where
  -- keys with no two equal are different things
  pub different_from_distinct : (ks : List K) → IsDistinct eq ks → AreDifferent ks
  different_from_distinct ks h = λ i j d lt l e. absurd (false≢true (sym (apart_from_distinct eq ks i j d h lt l) ∙ (exact _ _).1 e))

  -- what an insert does
  pub numbers_from_insert : (ks ms : List K) (item : K) (n : ℕ) → ms ≡ insert_key eq ks item → ((k : K) × (slice_get ms n ≡ Some k) × (eq item k ≡ true)) → Numbers ks item n ms
  numbers_from_insert ks ms item n e s = record {
    place = (slice_get_within ms n s.0 s.1, at);
    kept =
        elim (cases_Bool (list_any (eq item) ks)) [
          | inl t ↦ inl (e ∙ ap (λ b. cond b ks (ks ++ item ∷ [])) t)
          | inr f ↦
              let new : ms ≡ ks ++ item ∷ [] = e ∙ ap (λ b. cond b ks (ks ++ item ∷ [])) f in
              inr (
                new,
                elim (cases_lt n (length ks)) [
                  | inl lt ↦
                      absurd (false≢true (sym f ∙ list_any_at (eq item) ks n item lt
                      ((exact item _).1 (sym (sym (get_or_append_left ks (item ∷ []) item n lt) ∙ ap (λ l. get_or l n item) (sym new) ∙ at item)))))
                  | inr ge ↦ omega (arith, ge, slice_get_within ms n s.0 s.1, ap length new, length_push ks item)
                ],
              )
        ];
  }
    where
      at : (d : K) → get_or ms n d ≡ item
      at d = get_or_from_slice_get ms n s.0 d s.1 ∙ sym ((exact item s.0).0 s.2)
