-- Things that are told by other things: how many there are of the one, and so of the other.
use Rattle.std.proofs.Common.{ℕ, ◌+◌, ◌<◌, ◌≤◌, ◌⊎◌, sym, subst, inl, inr, arith}
use Rattle.std.proofs.lemmas.Bool.{cases_lt}
use Rattle.waf_base.specs.Members.{AtLeast, AtMost, Exactly}
use Rattle.waf_base.proofs.Below.{all-taken}
use Rattle.waf_base.proofs.Counting.{number-at, number-below, number-same, numbers-apart, no-more}

module _ {A B : Type 0} (Same : A → A → Type 0) (Same' : B → B → Type 0) (K : A → Type 0) (L : B → Type 0) (f : (a : A) → K a → B) (into : (a : A) (k : K a) → L (f a k))
    (apart : (a b : A) (k : K a) (l : K b) → Same' (f a k) (f b l) → Same a b) where
  -- the members of the one told as members of the other, and a given thing behind them
  abbrev told-to : (n : ℕ) (x : AtLeast Same n K) (other : B) (i : ℕ) → (i < n) ⊎ (n ≤ i) → B
  told-to n x other i (inl lt) = f (x.member i) (x.of_kind i lt)
  told-to n x other i (inr ge) = other

  told-kind : (n : ℕ) (x : AtLeast Same n K) (other : B) (i : ℕ) (c : (i < n) ⊎ (n ≤ i)) → i < n → L (told-to n x other i c)
  told-kind n x other i (inl lt) l = into (x.member i) (x.of_kind i lt)
  told-kind n x other i (inr ge) l = absurd (omega (arith, ge, l))

  told-apart : (n : ℕ) (x : AtLeast Same n K) (other : B) (i j : ℕ) (c : (i < n) ⊎ (n ≤ i)) (d : (j < n) ⊎ (n ≤ j)) → i < n → j < n → Same' (told-to n x other i c) (told-to n x other j d) → Same (x.member i) (x.member j)
  told-apart n x other i j (inl p) (inl q) l h same = apart (x.member i) (x.member j) (x.of_kind i p) (x.of_kind j q) same
  told-apart n x other i j (inr ge) d l h same = absurd (omega (arith, ge, l))
  told-apart n x other i j (inl p) (inr ge) l h same = absurd (omega (arith, ge, h))

  -- Where each thing of the one kind tells one of the other, and two that tell the same are the same, there are at least
  -- as many of the other. What tells may be the thing with what shows that it is of the kind.
  pub at_least-told : (other : B) (n : ℕ) → AtLeast Same n K → AtLeast Same' n L
  at_least-told other n x = record {
    member = λ i. told-to n x other i (cases_lt i n);
    of_kind = λ i l. told-kind n x other i (cases_lt i n) l;
    different = λ i j lt l same. x.different i j lt l (told-apart n x other i j (cases_lt i n) (cases_lt j n) (omega (arith, lt, l)) l same);
  }

  -- At most n of the other kind are never n + 1 of the one.
  pub no-more-told : (n : ℕ) → ((a b : B) → Same' a b → Same' b a) → ((a b c : B) → Same' a b → Same' b c → Same' a c) → AtMost Same' n L → AtLeast Same (n + 1) K → ⊥
  no-more-told n symmetric transitive most x = no-more Same' L n most (at_least-told (f (x.member 0) (x.of_kind 0 (omega arith))) (n + 1) x) symmetric transitive

  module _ (symmetric : (a b : A) → Same a b → Same b a) (transitive : (a b c : A) → Same a b → Same b c → Same a c) (n : ℕ) (x : Exactly Same n K) where
    -- each thing of the kind is the same as one of the different ones
    pub found : (a : A) (k : K a) → (j : ℕ) × (j < n) × Same (x.at_least.member j) a
    found a k =
        let t = all-taken (number-at Same K n n x.at_most x.at_least) n (number-below Same K n n x.at_most x.at_least) (numbers-apart Same K n n x.at_most x.at_least symmetric transitive) (x.at_most.number a k) (x.at_most.below a k) in (
          t.0,
          t.1,
          transitive _ (x.at_most.member (number-at Same K n n x.at_most x.at_least t.0)) a (symmetric _ _ (number-same Same K n n x.at_most x.at_least t.0 t.1))
              (subst (λ m. Same (x.at_most.member m) a) (sym t.2) (x.at_most.same a k)),
        )

    told-same : (other : B) (alike : (a b : A) (k : K a) (l : K b) → Same a b → Same' (f a k) (f b l)) (j : ℕ) (c : (j < n) ⊎ (n ≤ j)) → j < n → (a : A) (k : K a) → Same (x.at_least.member j) a
        → Same' (told-to n x.at_least other j c) (f a k)
    told-same other alike j (inl lt) l a k same = alike (x.at_least.member j) a (x.at_least.of_kind j lt) k same
    told-same other alike j (inr ge) l a k same = absurd (omega (arith, ge, l))

    -- Where besides the same things tell the same, and each thing of the other kind is told, there are just as many.
    pub exactly-told : (other : B) → ((a b : A) (k : K a) (l : K b) → Same a b → Same' (f a k) (f b l)) → ((a b c : B) → Same' a b → Same' b c → Same' a c)
        → ((b : B) → L b → (a : A) × (k : K a) × Same' (f a k) b) → Exactly Same' n L
    exactly-told other alike transitive' onto = record {
      at_least = at_least-told other n x.at_least;
      at_most = record {
        member = λ i. told-to n x.at_least other i (cases_lt i n);
        number = λ b l. (found (onto b l).0 (onto b l).1).0;
        below = λ b l. (found (onto b l).0 (onto b l).1).1;
        same = λ b l.
            let j = found (onto b l).0 (onto b l).1 in
            transitive' _ (f (onto b l).0 (onto b l).1) b (told-same other alike j.0 (cases_lt j.0 n) j.1 (onto b l).0 (onto b l).1 j.2) (onto b l).2;
      };
    }
