-- What a binary search among spans that are apart finds.
use Rattle.std.proofs.Common.{◌≡◌, ℕ, ◌+◌, ◌<◌, ◌≤◌, true, false, List, [], ◌∷◌, length, get_or, Result, Ok, Err, sym, arith, inl, inr}
use Rattle.std.proofs.lemmas.Bool.Decides.{nat_tests}
use Rattle.std.proofs.lemmas.Bool.{cases_lt}
use Rattle.std.proofs.lemmas.List.Folds.{list_any_at, list_any_none}
use Rattle.std.proofs.lemmas.List.Sorted.{IsNonDecreasingBy-from_all_adjacent}
use Rattle.std.specs.List.{list_any}
use Rattle.std.specs.List.Sorted.{IsNonDecreasingBy, IsBinarySearchResult, IsSearchInRange}
use Rattle.std.specs.Ordering.{ordering_index}
use Rattle.std.specs.Result.{is_ok}
use Rattle.std.specs.declared.cmp.Ordering.TheVariants.{Less, Equal, Greater}
use Rattle.ip_cover.specs.Spans.{AreApart, is_from_to, side}

-- a span further on stands no lower to the number
rises : (n a b c d : ℕ) → a ≤ b → b + 1 < c → c ≤ d → ordering_index (side n a b) ≤ ordering_index (side n c d)
rises n a b c d first gap second = grind (arith, nat_tests)

is_in : (n first last : ℕ) → side n first last ≡ Equal → is_from_to first last n ≡ true
is_in n first last e = grind (arith, nat_tests)

is_above : (n first last : ℕ) → side n first last ≡ Less → is_from_to first last n ≡ false
is_above n first last e = grind (arith, nat_tests)

is_below : (n first last : ℕ) → side n first last ≡ Greater → is_from_to first last n ≡ false
is_below n first last e = grind (arith, nat_tests)

module _ {X : Type 0} (first last : X → ℕ) (n : ℕ) where
  order : (spans : List X) → AreApart first last spans → IsNonDecreasingBy (λ s. ordering_index (side n (first s) (last s))) spans
  order spans apart = IsNonDecreasingBy-from_all_adjacent (λ s. ordering_index (side n (first s) (last s))) spans λ k d h.
      rises n (first (get_or spans k d)) (last (get_or spans k d)) (first (get_or spans (k + 1) d)) (last (get_or spans (k + 1) d))
      (apart.0 k d (omega arith)) (apart.1 k d h) (apart.0 (k + 1) d h)

  pub found : (spans : List X) → AreApart first last spans → (r : Result ℕ ℕ) → IsSearchInRange r (length spans)
      → IsBinarySearchResult (λ s. side n (first s) (last s)) spans r → is_ok r ≡ list_any (λ s. is_from_to (first s) (last s) n) spans
  found [] apart (Ok i) within is = absurd (omega arith)
  found (span ∷ spans) apart (Ok i) within is =
      let at = get_or (span ∷ spans) i span in
      sym (list_any_at (λ s. is_from_to (first s) (last s) n) (span ∷ spans) i span within (is_in n (first at) (last at) (is span)))
  found spans apart (Err i) within is =
      let (lower, higher) = is (order spans apart) in
      sym (list_any_none (λ s. is_from_to (first s) (last s) n) spans λ k d h.
      elim (cases_lt k i) [
        | inl before ↦ is_above n (first (get_or spans k d)) (last (get_or spans k d)) (lower k d (omega arith) before)
        | inr after ↦ is_below n (first (get_or spans k d)) (last (get_or spans k d)) (higher k d after h)
      ])
