-- What keys that are put in their places are: all of them and no others.
use Rattle.std.proofs.Common.{◌≡◌, ◌⊎◌, List, [], ◌∷◌, Contains, inl, inr, refl, subst, sym, arith}
use Rattle.std.proofs.lemmas.List.Elements.{Contains-append_left, Contains-append_right, Contains-append_cases}
use Rattle.std.specs.BTreeSet.{insert_key}
use Rattle.std.specs.List.Sorted.{IsStrictlySortedBy}
use Rattle.std.specs.Ordering.{match_ordering}
use Rattle.std.specs.declared.cmp.Ordering.{Ordering}
use Rattle.std.specs.declared.cmp.Ordering.TheVariants.{Less, Equal, Greater}
use Rattle.answer_book.specs.Keys.{Ascend, put_all}

-- keys that are equal by the order are the same
abbrev pub IsFaithful : {K : Type 0} → (K → K → Ordering) → Type 0
IsFaithful {K} order = (a b : K) → order a b ≡ Equal → a ≡ b

module _ {K : Type 0} (order : K → K → Ordering) (faithful : IsFaithful order) where
  of_inserted : (ks : List K) (k q : K) → Contains (insert_key order ks k) q → Contains ks q ⊎ Contains (k ∷ []) q
  of_inserted [] k q there = inr there
  of_inserted (x ∷ xs) k q here = by (order k x) (of_inserted xs k q) here where
    by : (o : Ordering) → (Contains (insert_key order xs k) q → Contains xs q ⊎ Contains (k ∷ []) q)
        → Contains (match_ordering o (k ∷ x ∷ xs) (x ∷ xs) (x ∷ insert_key order xs k)) q → Contains (x ∷ xs) q ⊎ Contains (k ∷ []) q
    by Less rest there = swapped (Contains-append_cases (k ∷ []) (x ∷ xs) q there) where
      swapped : Contains (k ∷ []) q ⊎ Contains (x ∷ xs) q → Contains (x ∷ xs) q ⊎ Contains (k ∷ []) q
      swapped (inl c) = inr c
      swapped (inr c) = inl c
    by Equal rest there = inl there
    by Greater rest there = behind (Contains-append_cases (x ∷ []) (insert_key order xs k) q there) where
      widened : Contains xs q ⊎ Contains (k ∷ []) q → Contains (x ∷ xs) q ⊎ Contains (k ∷ []) q
      widened (inl c) = inl (Contains-append_right (x ∷ []) xs q c)
      widened (inr c) = inr c

      behind : Contains (x ∷ []) q ⊎ Contains (insert_key order xs k) q → Contains (x ∷ xs) q ⊎ Contains (k ∷ []) q
      behind (inl c) = inl (Contains-append_left (x ∷ []) xs q c)
      behind (inr c) = widened (rest c)

  in_inserted : (ks : List K) (k q : K) → Contains ks q ⊎ Contains (k ∷ []) q → Contains (insert_key order ks k) q
  in_inserted [] k q (inl there) = Contains-append_right (k ∷ []) [] q there
  in_inserted [] k q (inr there) = there
  in_inserted (x ∷ xs) k q either = by (order k x) refl (in_inserted xs k q) either where
    by : (o : Ordering) → order k x ≡ o → (Contains xs q ⊎ Contains (k ∷ []) q → Contains (insert_key order xs k) q)
        → Contains (x ∷ xs) q ⊎ Contains (k ∷ []) q → Contains (match_ordering o (k ∷ x ∷ xs) (x ∷ xs) (x ∷ insert_key order xs k)) q
    by Less is rest (inl c) = Contains-append_right (k ∷ []) (x ∷ xs) q c
    by Less is rest (inr c) = Contains-append_left (k ∷ []) (x ∷ xs) q c
    by Equal is rest (inl c) = c
    by Equal is rest (inr c) = Contains-append_left (x ∷ []) xs q (subst (λ (one : K). Contains (one ∷ []) q) (faithful k x is) c)
    by Greater is rest (inl c) = behind (Contains-append_cases (x ∷ []) xs q c) where
      behind : Contains (x ∷ []) q ⊎ Contains xs q → Contains (x ∷ insert_key order xs k) q
      behind (inl c) = Contains-append_left (x ∷ []) (insert_key order xs k) q c
      behind (inr c) = Contains-append_right (x ∷ []) (insert_key order xs k) q (rest (inl c))
    by Greater is rest (inr c) = Contains-append_right (x ∷ []) (insert_key order xs k) q (rest (inr c))

  of_all : (ks more : List K) (q : K) → Contains (put_all order ks more) q → Contains ks q ⊎ Contains more q
  of_all ks [] q there = inl there
  of_all ks (k ∷ more) q there = by (of_all (insert_key order ks k) more q there) where
    early : Contains ks q ⊎ Contains (k ∷ []) q → Contains ks q ⊎ Contains (k ∷ more) q
    early (inl c) = inl c
    early (inr c) = inr (Contains-append_left (k ∷ []) more q c)

    by : Contains (insert_key order ks k) q ⊎ Contains more q → Contains ks q ⊎ Contains (k ∷ more) q
    by (inl c) = early (of_inserted ks k q c)
    by (inr c) = inr (Contains-append_right (k ∷ []) more q c)

  in_all : (ks more : List K) (q : K) → Contains ks q ⊎ Contains more q → Contains (put_all order ks more) q
  in_all ks [] q (inl c) = c
  in_all ks [] q (inr c) = absurd (omega (arith, c.1))
  in_all ks (k ∷ more) q (inl c) = in_all (insert_key order ks k) more q (inl (in_inserted ks k q (inl c)))
  in_all ks (k ∷ more) q (inr c) = by (in_all (insert_key order ks k) more q) (Contains-append_cases (k ∷ []) more q c) where
    by : (Contains (insert_key order ks k) q ⊎ Contains more q → Contains (put_all order (insert_key order ks k) more) q)
        → Contains (k ∷ []) q ⊎ Contains more q → Contains (put_all order (insert_key order ks k) more) q
    by rest (inl c) = rest (inl (in_inserted ks k q (inr c)))
    by rest (inr c) = rest (inr c)

  among : (all : List K) (q : K) → Contains [] q ⊎ Contains all q → Contains all q
  among all q (inl c) = absurd (omega (arith, c.1))
  among all q (inr c) = c

  -- keys that were put in their places, and are in order
  pub ascend : (all keys : List K) → IsStrictlySortedBy order keys → keys ≡ put_all order [] all → Ascend order all keys
  ascend all keys sorted is = record {
    ascending = sorted;
    members = λ key. (λ c. among all key (of_all [] all key (subst (λ (l : List K). Contains l key) is c)), λ c. subst (λ (l : List K). Contains l key) (sym is) (in_all [] all key (inr c)));
  }
