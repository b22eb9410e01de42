-- Facts on how many different things are of a kind, for any kinds: narrower and wider ones, images, sums and calls in turn.
use Rattle.std.proofs.Common.{◌≡◌, ℕ, ◌+◌, ◌-◌, ◌<◌, ◌≤◌, ◌⊎◌, refl, sym, ap, ◌∙◌, subst, inl, inr, arith}
use Rattle.std.proofs.lemmas.Bool.{cases_lt}
use Rattle.waf_base.specs.Members.{AtLeast, AtMost, Exactly}
use Rattle.waf_base.specs.declared.meter.Meter.{Meter}
use Rattle.waf_base.specs.Spending.{Unspent, NewlySpent, Spends, Lacks, Leaves}
use Rattle.waf_base.proofs.Below.{pigeonhole}

module _ {A : Type 0} (Same : A → A → Type 0) where
  -- none
  pub at_least-none : (IsKind : A → Type 0) (a : A) → AtLeast Same 0 IsKind
  at_least-none IsKind a = record {
    member = λ i. a;
    of_kind = λ i l. absurd (omega (arith, l));
    different = λ i j l h. absurd (omega (arith, h));
  }

  -- fewer of a wider kind, and more of a narrower one
  pub at_least-weaker : (K L : A → Type 0) (n m : ℕ) → m ≤ n → ((a : A) → K a → L a) → AtLeast Same n K → AtLeast Same m L
  at_least-weaker K L n m l f x = record {
    member = x.member;
    of_kind = λ i h. f (x.member i) (x.of_kind i (omega (arith, h, l)));
    different = λ i j h k. x.different i j h (omega (arith, k, l));
  }

  pub at_most-weaker : (K L : A → Type 0) (n m : ℕ) → n ≤ m → ((a : A) → L a → K a) → AtMost Same n K → AtMost Same m L
  at_most-weaker K L n m l f x = record {
    member = x.member;
    number = λ a h. x.number a (f a h);
    below = λ a h. omega (arith, x.below a (f a h), l);
    same = λ a h. x.same a (f a h);
  }

  -- the same kind in other words
  pub exactly-same : (K L : A → Type 0) (n : ℕ) → ((a : A) → K a → L a) → ((a : A) → L a → K a) → Exactly Same n K → Exactly Same n L
  exactly-same K L n f g x = record {
    at_least = at_least-weaker K L n n (omega arith) f x.at_least;
    at_most = at_most-weaker K L n n (omega arith) g x.at_most;
  }

  -- the members of two lists, one behind the other
  abbrev joined-to : ((i : ℕ) → A) → ((i : ℕ) → A) → (n i : ℕ) → (i < n) ⊎ (n ≤ i) → A
  joined-to x y n i (inl lt) = x i
  joined-to x y n i (inr ge) = y (i - n)

  abbrev joined-at : ((i : ℕ) → A) → ((i : ℕ) → A) → ℕ → ℕ → A
  joined-at x y n i = joined-to x y n i (cases_lt i n)

  to-front : (x y : (i : ℕ) → A) (n i : ℕ) (c : (i < n) ⊎ (n ≤ i)) → i < n → joined-to x y n i c ≡ x i
  to-front x y n i (inl lt) l = refl
  to-front x y n i (inr ge) l = absurd (omega (arith, ge, l))

  to-back : (x y : (i : ℕ) → A) (n i k : ℕ) (c : (i < n) ⊎ (n ≤ i)) → i ≡ n + k → joined-to x y n i c ≡ y k
  to-back x y n i k (inl lt) e = absurd (omega (arith, lt, e))
  to-back x y n i k (inr ge) e = ap y (let h : i - n ≡ k = omega (arith, e) in h)

  joined-front : (x y : (i : ℕ) → A) (n i : ℕ) → i < n → joined-at x y n i ≡ x i
  joined-front x y n i l = to-front x y n i (cases_lt i n) l

  joined-back : (x y : (i : ℕ) → A) (n i k : ℕ) → i ≡ n + k → joined-at x y n i ≡ y k
  joined-back x y n i k e = to-back x y n i k (cases_lt i n) e

  -- kinds with no member in common (tags) are counted one by one
  pub at_least-sum : (K L : A → Type 0) (n m : ℕ) → ((a b : A) → K a → L b → Same a b → ⊥) → AtLeast Same n K → AtLeast Same m L → AtLeast Same (n + m) (λ a. K a ⊎ L a)
  at_least-sum K L n m disjoint x y = record {
    member = joined-at x.member y.member n;
    of_kind = λ i l.
        elim (cases_lt i n) [
          | inl lt ↦ inl (subst K (sym (joined-front x.member y.member n i lt)) (x.of_kind i lt))
          | inr ge ↦ inr (subst L (sym (joined-back x.member y.member n i (i - n) (omega (arith, ge)))) (y.of_kind (i - n) (omega (arith, ge, l))))
        ];
    different = λ i j lt h same.
        elim (cases_lt j n) [
          | inl front ↦
              x.different i j lt front
              (subst (λ t. Same t (x.member j)) (joined-front x.member y.member n i (omega (arith, lt, front))) (subst (Same (joined-at x.member y.member n i)) (joined-front x.member y.member n j front) same))
          | inr back ↦
              let at_j : joined-at x.member y.member n j ≡ y.member (j - n) = joined-back x.member y.member n j (j - n) (omega (arith, back)) in
              elim (cases_lt i n) [
                | inl front ↦
                    disjoint (x.member i) (y.member (j - n)) (x.of_kind i front) (y.of_kind (j - n) (omega (arith, back, h)))
                    (subst (λ t. Same t (y.member (j - n))) (joined-front x.member y.member n i front) (subst (Same (joined-at x.member y.member n i)) at_j same))
                | inr behind ↦
                    y.different (i - n) (j - n) (omega (arith, behind, lt)) (omega (arith, back, h))
                    (subst (λ t. Same t (y.member (j - n))) (joined-back x.member y.member n i (i - n) (omega (arith, behind))) (subst (Same (joined-at x.member y.member n i)) at_j same))
              ]
        ];
  }

  module _ (K L : A → Type 0) (n m : ℕ) (x : AtMost Same n K) (y : AtMost Same m L) where
    abbrev number : (a : A) → K a ⊎ L a → ℕ
    number a (inl k) = x.number a k
    number a (inr l) = n + y.number a l

    below : (a : A) (h : K a ⊎ L a) → number a h < n + m
    below a (inl k) = omega (arith, x.below a k)
    below a (inr l) = omega (arith, y.below a l)

    same : (a : A) (h : K a ⊎ L a) → Same (joined-at x.member y.member n (number a h)) a
    same a (inl k) = subst (λ t. Same t a) (sym (joined-front x.member y.member n (x.number a k) (x.below a k))) (x.same a k)
    same a (inr l) = subst (λ t. Same t a) (sym (joined-back x.member y.member n (n + y.number a l) (y.number a l) refl)) (y.same a l)

    pub at_most-sum : AtMost Same (n + m) (λ a. K a ⊎ L a)
    at_most-sum = record { member = joined-at x.member y.member n; number = number; below = below; same = same }

  -- different things of a kind, each with the number of one that is the same
  module _ (K : A → Type 0) (m n : ℕ) (x : AtMost Same m K) (y : AtLeast Same n K) where
    abbrev number-to : (i : ℕ) → (i < n) ⊎ (n ≤ i) → ℕ
    number-to i (inl lt) = x.number (y.member i) (y.of_kind i lt)
    number-to i (inr ge) = 0

    to-below : (i : ℕ) (c : (i < n) ⊎ (n ≤ i)) → i < n → number-to i c < m
    to-below i (inl lt) l = x.below (y.member i) (y.of_kind i lt)
    to-below i (inr ge) l = absurd (omega (arith, ge, l))

    to-same : (i : ℕ) (c : (i < n) ⊎ (n ≤ i)) → i < n → Same (x.member (number-to i c)) (y.member i)
    to-same i (inl lt) l = x.same (y.member i) (y.of_kind i lt)
    to-same i (inr ge) l = absurd (omega (arith, ge, l))

    abbrev pub number-at : ℕ → ℕ
    number-at i = number-to i (cases_lt i n)

    pub number-below : (i : ℕ) → i < n → number-at i < m
    number-below i l = to-below i (cases_lt i n) l

    pub number-same : (i : ℕ) → i < n → Same (x.member (number-at i)) (y.member i)
    number-same i l = to-same i (cases_lt i n) l

    module _ (symmetric : (a b : A) → Same a b → Same b a) (transitive : (a b c : A) → Same a b → Same b c → Same a c) where
      pub numbers-apart : (i j : ℕ) → i < j → j < n → number-at i ≡ number-at j → ⊥
      numbers-apart i j lt l e =
          y.different i j lt l
          (transitive (y.member i) (x.member (number-at j)) (y.member j) (symmetric _ _ (subst (λ k. Same (x.member k) (y.member i)) e (number-same i (omega (arith, lt, l))))) (number-same j l))

      -- at least n are at most m only where n is no more than m
      pub least-most : n ≤ m
      least-most = pigeonhole number-at m n number-below numbers-apart

  -- at most n are never n + 1
  pub no-more : (K : A → Type 0) (n : ℕ) → AtMost Same n K → AtLeast Same (n + 1) K → ((a b : A) → Same a b → Same b a) → ((a b c : A) → Same a b → Same b c → Same a c) → ⊥
  no-more K n x y symmetric transitive = omega (arith, least-most K n (n + 1) x y symmetric transitive)

  -- a call after one that ended well
  module _ (IsKind Before Mid : A → Type 0) (kept : (a b : A) → Same a b → Mid a → Mid b) (old mid : Meter) (first : Spends Same IsKind Before Mid old mid) where
    unspent : (a : A) → (Mid a → ⊥) → Before a → ⊥
    unspent a h b = h (first.kept a b)

    pub spends-spends : (After : A → Type 0) (new : Meter) → Spends Same IsKind Mid After mid new → Spends Same IsKind Before After old new
    spends-spends After new second = record {
      limit = record { limit = second.limit.limit ∙ first.limit.limit; made = omega (arith, first.limit.made, second.limit.made) };
      kept = λ a b. second.kept a (first.kept a b);
      counted =
          at_least-weaker (λ a. NewlySpent IsKind Before Mid a ⊎ NewlySpent IsKind Mid After a) (NewlySpent IsKind Before After) ((mid.made - old.made) + (new.made - mid.made)) (new.made - old.made) (omega (arith, first.limit.made, second.limit.made))
          (λ a h. elim h [
            | inl k ↦ record { of_kind = k.of_kind; unspent = k.unspent; spent = second.kept a k.spent }
            | inr k ↦ record { of_kind = k.of_kind; unspent = unspent a k.unspent; spent = k.spent }
          ])
          (at_least-sum (NewlySpent IsKind Before Mid) (NewlySpent IsKind Mid After) (mid.made - old.made) (new.made - mid.made) (λ a b k l same. l.unspent (kept a b same k.spent)) first.counted second.counted);
    }

    -- what wasn't counted at entry: what the first counted, and so many that weren't counted then
    both : (n : ℕ) → AtLeast Same n (Unspent IsKind Mid) → AtLeast Same ((mid.made - old.made) + n) (Unspent IsKind Before)
    both n second =
        at_least-weaker (λ a. NewlySpent IsKind Before Mid a ⊎ Unspent IsKind Mid a) (Unspent IsKind Before) ((mid.made - old.made) + n) ((mid.made - old.made) + n) (omega arith)
        (λ a h. elim h [
          | inl k ↦ record { of_kind = k.of_kind; unspent = k.unspent }
          | inr k ↦ record { of_kind = k.of_kind; unspent = unspent a k.unspent }
        ])
        (at_least-sum (NewlySpent IsKind Before Mid) (Unspent IsKind Mid) (mid.made - old.made) n (λ a b k l same. l.unspent (kept a b same k.spent)) first.counted second)

    pub lacks-spends : (new : Meter) → Lacks Same IsKind Mid mid new → Lacks Same IsKind Before old new
    lacks-spends new second = record {
      limit = record { limit = second.limit.limit ∙ first.limit.limit; made = omega (arith, first.limit.made, second.limit.made) };
      full = second.full;
      counted =
          at_least-weaker (Unspent IsKind Before) (Unspent IsKind Before) ((mid.made - old.made) + (mid.limit - mid.made + 1)) (old.limit - old.made + 1) (omega (arith, first.limit.limit, first.limit.made)) (λ a h. h)
          (both (mid.limit - mid.made + 1) second.counted);
    }

    pub leaves-spends : (new : Meter) → Leaves Same IsKind Mid mid new → Leaves Same IsKind Before old new
    leaves-spends new second = record {
      limit = record { limit = second.limit.limit ∙ first.limit.limit; made = omega (arith, first.limit.made, second.limit.made) };
      counted =
          at_least-weaker (Unspent IsKind Before) (Unspent IsKind Before) ((mid.made - old.made) + (new.made - mid.made)) (new.made - old.made) (omega (arith, first.limit.made, second.limit.made)) (λ a h. h)
          (both (new.made - mid.made) second.counted);
    }

-- a map that keeps things apart and takes the one kind into the other, as a tag does
pub at_least-injected : {A B : Type 0} (Same : A → A → Type 0) (Same' : B → B → Type 0) (K : A → Type 0) (L : B → Type 0) (n : ℕ) (f : A → B) → ((a : A) → K a → L (f a))
    → ((a b : A) → K a → K b → Same' (f a) (f b) → Same a b) → AtLeast Same n K → AtLeast Same' n L
at_least-injected Same Same' K L n f into apart x = record {
  member = λ i. f (x.member i);
  of_kind = λ i l. into (x.member i) (x.of_kind i l);
  different = λ i j lt l same. x.different i j lt l (apart (x.member i) (x.member j) (x.of_kind i (omega (arith, lt, l))) (x.of_kind j l) same);
}

-- a map onto the other kind
pub at_most-image : {A B : Type 0} (Same : A → A → Type 0) (Same' : B → B → Type 0) (K : A → Type 0) (L : B → Type 0) (n : ℕ) (f : A → B) → ((b : B) → L b → (a : A) × K a × Same' (f a) b)
    → ((a b : A) → Same a b → Same' (f a) (f b)) → ((a b c : B) → Same' a b → Same' b c → Same' a c) → AtMost Same n K → AtMost Same' n L
at_most-image Same Same' K L n f onto keeps transitive x = record {
  member = λ i. f (x.member i);
  number = λ b h. x.number (onto b h).0 (onto b h).1;
  below = λ b h. x.below (onto b h).0 (onto b h).1;
  same = λ b h. transitive _ (f (onto b h).0) b (keeps _ (onto b h).0 (x.same (onto b h).0 (onto b h).1)) (onto b h).2;
}
