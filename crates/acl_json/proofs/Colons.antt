-- Where a text is cut at a colon, from what `split_once` gives.
use Rattle.std.proofs.Common.{◌≡◌, ℕ, ◌<◌, List, length, true, false, ltb, eqb, Option, Some, None, option_map, Bor, MatchOption, lit<, ap, arith}
use Rattle.std.proofs.lemmas.Bool.Decides.{nat_tests}
use Rattle.std.proofs.lemmas.Str.Pattern.{split_once_first, IsSplitOnceResult}
use Rattle.std.specs.List.{before_first, after_first, position_or_len}
use Rattle.acl_json.specs.Namespaces.{after_colon}

none_at : (n m : ℕ) → n ≡ m → ltb n m ≡ false
none_at n m e = grind (arith, nat_tests)

some_at : (n m : ℕ) → n < m → ltb n m ≡ true
some_at n m h = grind (arith, nat_tests)

cut_is : (text : List ℕ) (r : Option (Bor (List ℕ) × Bor (List ℕ)))
    → MatchOption r (position_or_len (λ b. eqb b 58) text ≡ length text)
    (λ x. (position_or_len (λ b. eqb b 58) text < length text) × (x.0.now ≡ before_first (λ b. eqb b 58) text) × (x.1.now ≡ after_first (λ b. eqb b 58) text))
    → option_map (λ x. x.1.now) r ≡ after_colon text
cut_is text None m = rw (none_at (position_or_len (λ b. eqb b 58) text) (length text) m)
cut_is text (Some x) m = rw (some_at (position_or_len (λ b. eqb b 58) text) (length text) m.0) (ap Some m.2)

pub splits : (text : List ℕ) (r : Option (Bor (List ℕ) × Bor (List ℕ))) → IsSplitOnceResult 58 text r → option_map (λ x. x.1.now) r ≡ after_colon text
splits text r h = cut_is text r (split_once_first 58 text r h (lit< tt))
